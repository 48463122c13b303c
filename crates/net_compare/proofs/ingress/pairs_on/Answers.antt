use Rattle.std.proofs.Common.{Option, subst}
use Rattle.net_types.specs.Report.{affected}
use Rattle.net_view.specs.Borrowed.{world_of}
use Rattle.set_walk.proofs.NetLemmas.{net_kept}
use Rattle.set_walk.proofs.SetLemmas.{keeps_then}
use Rattle.set_walk.proofs.ScopeLemmas.{within_kept}
use Rattle.cube_diagram.specs.Functions.{value_at}
use Rattle.pair_rows.specs.Pairs.{Pair, IsNumberOf}
use Rattle.net_compare.proofs.IngressLemmas.{labels_are_affected, none_affected, old_numbers, new_numbers, some_outcomes}
use Rattle.net_compare.proofs.ingress.pairs_on.Goals as goal

pub label_numbers-requires-2-clause-net : goal.label_numbers-requires-2-clause-net
label_numbers-requires-2-clause-net c = net_kept c.args.table.now c.label_numbers.new.table c.args.compared.now.new.now c.in_ok-before.ensures.kept c.requires.new

pub label_numbers-requires-clause-within : goal.label_numbers-requires-clause-within
label_numbers-requires-clause-within c = c.requires.old_within

pub label_numbers-requires-2-clause-within : goal.label_numbers-requires-2-clause-within
label_numbers-requires-2-clause-within c =
    within_kept c.args.table.now c.label_numbers.new.table c.args.domain c.args.compared.now.new.now.scope c.in_ok-before.ensures.kept c.requires.domain c.requires.new.below c.requires.new_within

pub pairs_given-requires-clause-some_old : goal.pairs_given-requires-clause-some_old
pairs_given-requires-clause-some_old c =
    let v = world_of c.args.compared.now.old.now.world in
    let start = c.args.table.now in
    let mid = c.label_numbers.new.table in
    let end = c.label_numbers-2.new.table in
    some_outcomes v c.args.place c.args.compared.now.ttl start c.args.domain end c.in_ok-before.before c.args.compared.now.least (old_numbers v c.args.place c.args.compared.now.ttl start mid c.args.domain end c.in_ok-before.before c.in_ok-after.ensures.kept c.in_ok-before.ensures.numbers)

pub pairs_given-requires-clause-some_new : goal.pairs_given-requires-clause-some_new
pairs_given-requires-clause-some_new c =
    let w = world_of c.args.compared.now.new.now.world in
    let mid = c.label_numbers.new.table in
    let end = c.label_numbers-2.new.table in
    some_outcomes w c.args.place c.args.compared.now.ttl mid c.args.domain end c.in_ok-after.after c.args.compared.now.least c.in_ok-after.ensures.numbers

pub returns-clause-given : goal.returns-clause-given
returns-clause-given c =
    let v = world_of c.args.compared.now.old.now.world in
    let w = world_of c.args.compared.now.new.now.world in
    let start = c.args.table.now in
    let mid = c.label_numbers.new.table in
    let end = c.label_numbers-2.new.table in
    let old = c.in_ok-before.before in
    let new = c.in_ok-after.after in
    let before = old_numbers v c.args.place c.args.compared.now.ttl start mid c.args.domain end old c.in_ok-after.ensures.kept c.in_ok-before.ensures.numbers in
    let after = new_numbers w c.args.place c.args.compared.now.ttl start mid c.args.domain end new c.in_ok-before.ensures.kept c.requires.domain c.in_ok-after.ensures.numbers in
    let given = c.in_ok-given.given in
    record { each = λ h l. subst (λ (q : Option Pair). IsNumberOf given.pairs (value_at given.table given.function h) q) (labels_are_affected v w c.args.place c.args.compared.now.ttl start end c.args.domain old new c.requires.alike before after h l) (c.in_ok-given.ensures.given.each h l) }

pub returns-then-is_nothing-clause-given : goal.returns-then-is_nothing-clause-given
returns-then-is_nothing-clause-given c =
    let v = world_of c.args.compared.now.old.now.world in
    let w = world_of c.args.compared.now.new.now.world in
    c.in_ok-none.ensures (affected v w c.args.compared.now.ttl c.args.place) (none_affected v w c.args.place c.args.compared.now.ttl c.args.table.now c.args.domain c.requires.alike (c.is_nothing.ensures.0 c.if-is_nothing.true))

pub returns-clause-kept : goal.returns-clause-kept
returns-clause-kept c =
    let start = c.args.table.now in
    let mid = c.label_numbers.new.table in
    let end = c.label_numbers-2.new.table in
    keeps_then start end c.pairs_given.new.table (keeps_then start mid end c.in_ok-before.ensures.kept c.in_ok-after.ensures.kept) c.in_ok-given.ensures.kept
