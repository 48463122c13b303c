use Rattle.std.proofs.Common.{Contains, sym, subst}
use Rattle.set_walk.specs.Ways.{IsStamp, OfStamp}
use Rattle.place_ways.proofs.SetLemmas.{keeps_then, kept_below}
use Rattle.place_ways.proofs.AddLemmas.{given_kept}
use Rattle.place_ways.proofs.StampLemmas.{sent_fits}
use Rattle.place_ways.proofs.LinkLemmas.{others_added}
use Rattle.place_ways.proofs.link.add_by_addresses.Goals as goal

pub add_listed-requires-clause-given : goal.add_listed-requires-clause-given
add_listed-requires-clause-given c = kept_below c.args.table.now c.destination_among.new.table c.args.given c.in_ok-function.ensures.kept c.requires.given

pub add_listed-requires-clause-ways : goal.add_listed-requires-clause-ways
add_listed-requires-clause-ways c = given_kept c.args.table.now c.destination_among.new.table c.args.ways.now.ways.items c.in_ok-function.ensures.kept c.requires.ways

pub without-requires-clause-first : goal.without-requires-clause-first
without-requires-clause-first c =
    let f0 = c.args.table.now in
    let f1 = c.destination_among.new.table in
    let f2 = c.add_listed.new.table in
    kept_below f0 f2 c.args.given (keeps_then f0 f1 f2 c.in_ok-function.ensures.kept c.in_ok-add_listed.ensures.kept) c.requires.given

pub without-requires-clause-second : goal.without-requires-clause-second
without-requires-clause-second c = kept_below c.destination_among.new.table c.add_listed.new.table c.in_ok-function.function c.in_ok-add_listed.ensures.kept c.in_ok-function.ensures.told.below

pub join_way-requires-clause-fits : goal.join_way-requires-clause-fits
join_way-requires-clause-fits c =
    subst (OfStamp IsStamp) (sym c.stamped_step-step.ensures) (sent_fits c.args.link.place c.args.link.stamp c.args.addresses.now.otherwise c.requires.stamp)

pub join_way-requires-clause-ways : goal.join_way-requires-clause-ways
join_way-requires-clause-ways c = given_kept c.add_listed.new.table c.without.new.table c.add_listed.new.ways.ways.items c.in_ok-rest.ensures.kept c.in_ok-add_listed.ensures.added.given

pub returns-clause-added : goal.returns-clause-added
returns-clause-added c =
    let l = c.args.link in
    others_added l.wiring.now l.place l.stamp c.args.table.now c.destination_among.new.table c.add_listed.new.table c.without.new.table c.join_way.new.table c.as_slice-listed.result.now c.in_ok-function.function c.args.given c.in_ok-rest.rest c.args.addresses.now.otherwise c.stamped_step-step.result c.args.ways.now.ways.items c.add_listed.new.ways.ways.items c.join_way.new.ways.ways.items c.in_ok-function.ensures.kept c.in_ok-add_listed.ensures.kept c.in_ok-rest.ensures.kept c.requires.given c.requires.ways c.in_ok-function.ensures.told c.stamped_step-step.ensures (λ a n. c.requires.otherwise a (λ i. n (subst (λ xs. Contains xs a) (sym c.as_slice-listed.ensures.value) i))) c.in_ok-rest.ensures.set.exact c.in_ok-add_listed.ensures.added c.in_ok-join_way.ensures.added

pub returns-clause-kept : goal.returns-clause-kept
returns-clause-kept c =
    let f0 = c.args.table.now in
    let f1 = c.destination_among.new.table in
    let f2 = c.add_listed.new.table in
    let f3 = c.without.new.table in
    let f4 = c.join_way.new.table in
    keeps_then f0 f1 f4 c.in_ok-function.ensures.kept (keeps_then f1 f2 f4 c.in_ok-add_listed.ensures.kept (keeps_then f2 f3 f4 c.in_ok-rest.ensures.kept c.in_ok-join_way.ensures.kept))
