use Rattle.net_view.specs.Borrowed.{world_of}
use Rattle.change_scope.proofs.ScopeLemmas.{alike_in_everything, all_in_everything, both_alike, counts, everything_by, form_below, indexed, more_has, new_right, old_right}
use Rattle.change_scope.proofs.scope.add_unlike.Goals as goal

pub both_named-requires-clause-old : goal.both_named-requires-clause-old
both_named-requires-clause-old c = indexed c.args.table.now c.args.pair.fates.now c.args.pair.old.now c.requires.pair.old

pub both_named-requires-clause-new : goal.both_named-requires-clause-new
both_named-requires-clause-new c = indexed c.args.table.now c.args.pair.fates.now c.args.pair.new.now c.requires.pair.new

pub returns-in_default-clause-turned : goal.returns-in_default-clause-turned
returns-in_default-clause-turned c =
    let f = c.args.table.now in
    more_has f f c.args.set c.everything.result c.args.pair (all_in_everything f c.args.set c.everything.result c.everything.ensures.exact) c.everything.ensures.below (everything_by f c.everything.result c.everything.ensures.exact) c.requires.turned

pub returns-in_default-clause-all : goal.returns-in_default-clause-all
returns-in_default-clause-all c = all_in_everything c.args.table.now c.args.set c.everything.result c.everything.ensures.exact

pub returns-in_default-clause-alike : goal.returns-in_default-clause-alike
returns-in_default-clause-alike c =
    alike_in_everything (world_of c.args.pair.old.now.world) (world_of c.args.pair.new.now.world) c.args.table.now c.everything.result c.args.name c.everything.ensures.exact

pub add_form-requires-clause-first : goal.add_form-requires-clause-first
add_form-requires-clause-first c = (old_right c.args.pair c.args.name c.in-Some.both c.args.table.now c.requires.pair c.in-Some.ensures).fates_below

pub add_form-requires-clause-second : goal.add_form-requires-clause-second
add_form-requires-clause-second c = (new_right c.args.pair c.args.name c.in-Some.both c.args.table.now c.requires.pair c.in-Some.ensures).fates_below

pub add_form-requires-clause-first_seats : goal.add_form-requires-clause-first_seats
add_form-requires-clause-first_seats c =
    let b = c.in-Some.both in
    form_below c.args.table.now c.args.pair.fates.now b.old.device.now b.old.form.now (old_right c.args.pair c.args.name b c.args.table.now c.requires.pair c.in-Some.ensures)

pub add_form-requires-clause-second_seats : goal.add_form-requires-clause-second_seats
add_form-requires-clause-second_seats c =
    let b = c.in-Some.both in
    form_below c.args.table.now c.args.pair.fates.now b.new.device.now b.new.form.now (new_right c.args.pair c.args.name b c.args.table.now c.requires.pair c.in-Some.ensures)

pub add_form-requires-clause-count : goal.add_form-requires-clause-count
add_form-requires-clause-count c = counts c.args.pair c.args.name c.in-Some.both c.args.table.now c.requires.pair c.in-Some.ensures

pub add_form-requires-clause-set : goal.add_form-requires-clause-set
add_form-requires-clause-set c = c.requires.turned.below

pub add_form-requires-clause-by : goal.add_form-requires-clause-by
add_form-requires-clause-by c = c.requires.turned.by

pub returns-clause-turned : goal.returns-clause-turned
returns-clause-turned c =
    let o = c.in_ok-all.ensures in
    more_has c.args.table.now c.add_form.new.table c.args.set c.in_ok-all.all c.args.pair o.all o.below o.by c.requires.turned

pub returns-clause-alike : goal.returns-clause-alike
returns-clause-alike c =
    let o = c.in_ok-all.ensures in
    let g = c.add_form.new.table in
    both_alike c.args.pair c.args.name c.in-Some.both c.args.table.now c.requires.pair c.in-Some.ensures g c.in_ok-all.all o.agree (more_has c.args.table.now g c.args.set c.in_ok-all.all c.args.pair o.all o.below o.by c.requires.turned)
