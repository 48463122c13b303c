use Rattle.nat_static.proofs.compiled.compile.Goals as goal
use Rattle.nat_static.specs.Rules.{applying, outer_applying}
use Rattle.nat_static.proofs.StampedLemmas.{tells, have, stamps_hold, stamps_exact, stamps_fixed}

pub stamps_of-requires-clause-apart : goal.stamps_of-requires-clause-apart
stamps_of-requires-clause-apart c = rw c.deref-2.ensures.value c.in_ok-parts.ensures.apart

pub stamps_of-requires-clause-parts : goal.stamps_of-requires-clause-parts
stamps_of-requires-clause-parts c =
    let rules = c.args.rules.now in
    let rule = applying c.args.direction rules in
    let told = tells rule rules c.in_ok-inner_rules.inner_rules.items c.deref.result.now c.in_ok-inner_rules.ensures (rw c.deref.ensures.value c.in_ok-pieces.ensures) in
    rw c.deref-2.ensures.value (have rule rules c.deref.result.now c.in_ok-parts.parts.items told c.in_ok-parts.ensures.each)

pub stamps_of-requires-clause-outer : goal.stamps_of-requires-clause-outer
stamps_of-requires-clause-outer c =
    let rules = c.args.rules.now in
    tells (outer_applying c.args.direction rules) rules c.in_ok-outer_rules.outer_rules.items c.deref-3.result.now c.in_ok-outer_rules.ensures (rw c.deref-3.ensures.value c.in_ok-outer.ensures)

pub returns-clause-apart : goal.returns-clause-apart
returns-clause-apart c = c.in_ok-stamps.ensures.apart

pub returns-clause-covers : goal.returns-clause-covers
returns-clause-covers c =
    let d = c.args.direction in
    let rules = c.args.rules.now in
    let rule = applying d rules in
    let told = tells rule rules c.in_ok-inner_rules.inner_rules.items c.deref.result.now c.in_ok-inner_rules.ensures (rw c.deref.ensures.value c.in_ok-pieces.ensures) in
    stamps_hold d rules rule c.deref.result.now c.deref-2.result.now c.in_ok-stamps.stamps.items told (rw c.deref-2.ensures.value c.in_ok-parts.ensures.holder) c.in_ok-stamps.ensures

pub returns-clause-exact : goal.returns-clause-exact
returns-clause-exact c = stamps_exact c.args.direction c.args.rules.now c.deref-2.result.now c.in_ok-stamps.stamps.items c.in_ok-stamps.ensures

pub returns-clause-fixed : goal.returns-clause-fixed
returns-clause-fixed c = stamps_fixed c.args.direction c.args.rules.now c.deref-2.result.now c.in_ok-stamps.stamps.items c.in_ok-stamps.ensures
