use Rattle.std.proofs.Common.{get_or}
use Rattle.std.proofs.lemmas.List.{get_or_default}
use Rattle.net_view.specs.Borrowed.{world_of}
use Rattle.set_walk.specs.declared.step.Step.TheVariants.{Drop}
use Rattle.set_walk.specs.declared.step.Way.{Way}
use Rattle.set_walk.proofs.SetLemmas.{keeps_then}
use Rattle.set_walk.proofs.ToldLemmas.{given_kept, item_among}
use Rattle.loop_search.specs.Bounds.{EntersLoop}
use Rattle.loop_search.specs.Looping.{LeadsTo}
use Rattle.loop_search.proofs.BoundsLemmas.{bounds_kept, one_more}
use Rattle.loop_search.proofs.bounds.staying.Goals as goal

pub with_way-requires-clause-way : goal.with_way-requires-clause-way
with_way-requires-clause-way c =
    let xs = c.args.ways.now in
    let i = c.loop-way.way-index in
    let x : Way = get_or xs i (record { step = Drop; headers = 0 }) in
    let e = get_or_default xs i (record { step = Drop; headers = 0 }) x c.loop-way-test.true in
    given_kept c.args.table.now c.loop-way.table x c.loop-way.invariant.kept (c.requires.ways x (item_among xs i x c.loop-way-test.true e))

pub loop-way-preserved : goal.loop-way-preserved
loop-way-preserved c =
    let f = c.args.table.now in
    let xs = c.args.ways.now in
    let i = c.loop-way.way-index in
    let x : Way = get_or xs i (record { step = Drop; headers = 0 }) in
    let e = get_or_default xs i (record { step = Drop; headers = 0 }) x c.loop-way-test.true in
    let given = c.requires.ways x (item_among xs i x c.loop-way-test.true e) in
    let made = c.in_ok-stay.ensures in
    record {
      kept = keeps_then f c.loop-way.table c.with_way.new.table c.loop-way.invariant.kept made.kept;
      below = made.below;
      stay = λ a h fits y. made.stay (bounds_kept f c.loop-way.table c.args.net.now c.args.bounds.now c.loop-way.invariant.kept c.requires.bounds a) h fits (one_more f c.loop-way.table (LeadsTo (EntersLoop (world_of c.args.net.now.world))) xs i x h c.loop-way.stay c.loop-way-test.true e c.loop-way.invariant.kept given.below (c.loop-way.invariant.stay a h fits) y);
    }
