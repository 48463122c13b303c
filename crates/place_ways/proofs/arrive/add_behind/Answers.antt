use Rattle.std.proofs.Common.{subst, sym, take_all, get_or}
use Rattle.std.proofs.lemmas.List.{get_or_default}
use Rattle.set_walk.specs.declared.step.Way.{Way}
use Rattle.set_walk.specs.declared.step.Step.TheVariants.{Drop}
use Rattle.set_walk.specs.Ways.{IsStamp, OfStamp}
use Rattle.set_walk.proofs.StampLemmas.{since_fits}
use Rattle.set_walk.proofs.ToldLemmas.{item_among}
use Rattle.place_ways.specs.Adding.{AddsWays, MakesBehind}
use Rattle.place_ways.proofs.SetLemmas.{keeps_same, keeps_then, kept_below}
use Rattle.place_ways.proofs.AddLemmas.{given_kept}
use Rattle.place_ways.proofs.ArriveLemmas.{nothing_behind, behind_none, behind_more}
use Rattle.place_ways.proofs.arrive.add_behind.Goals as goal

pub returns-then-is_nothing-clause-added : goal.returns-then-is_nothing-clause-added
returns-then-is_nothing-clause-added c =
    nothing_behind c.args.table.now c.args.given c.args.stamp c.args.base.now c.args.ways.now.items c.requires.ways (c.is_nothing.ensures.0 c.if-is_nothing.true)

pub loop-way-init : goal.loop-way-init
loop-way-init c = record {
  kept = keeps_same c.args.table.now;
  added = behind_none c.args.table.now c.args.given c.args.stamp c.args.ways.now.items c.requires.ways;
}

pub before_stamp-requires : goal.before_stamp-requires
before_stamp-requires c =
    let xs = c.args.base.now in
    let i = c.loop-way.way-index in
    let w : Way = get_or xs i (record { step = Drop; headers = 0 }) in
    let e = get_or_default xs i (record { step = Drop; headers = 0 }) w c.loop-way-test.true in
    kept_below c.args.table.now c.loop-way.table w.headers c.loop-way.invariant.kept (c.requires.base_given w (item_among c.args.base.now c.loop-way.way-index w c.loop-way-test.true e)).below

pub both-requires-clause-second : goal.both-requires-clause-second
both-requires-clause-second c =
    kept_below c.args.table.now c.before_stamp.new.table c.args.given (keeps_then c.args.table.now c.loop-way.table c.before_stamp.new.table c.loop-way.invariant.kept c.in_ok-before.ensures.kept) c.requires.given

pub add_way-requires-clause-fits : goal.add_way-requires-clause-fits
add_way-requires-clause-fits c =
    let xs = c.args.base.now in
    let i = c.loop-way.way-index in
    let w : Way = get_or xs i (record { step = Drop; headers = 0 }) in
    let e = get_or_default xs i (record { step = Drop; headers = 0 }) w c.loop-way-test.true in
    subst (OfStamp IsStamp) (sym c.since.ensures) (since_fits c.args.stamp w.step c.requires.stamp (c.requires.base_given w (item_among c.args.base.now c.loop-way.way-index w c.loop-way-test.true e)).fits)

pub add_way-requires-clause-ways : goal.add_way-requires-clause-ways
add_way-requires-clause-ways c =
    given_kept c.loop-way.table c.both.new.table c.loop-way.ways.items (keeps_then c.loop-way.table c.before_stamp.new.table c.both.new.table c.in_ok-before.ensures.kept c.in_ok-headers.ensures.kept) c.loop-way.invariant.added.given

pub loop-way-preserved : goal.loop-way-preserved
loop-way-preserved c =
    let xs = c.args.base.now in
    let i = c.loop-way.way-index in
    let w : Way = get_or xs i (record { step = Drop; headers = 0 }) in
    let e = get_or_default xs i (record { step = Drop; headers = 0 }) w c.loop-way-test.true in
    let f = c.args.table.now in
    let g0 = c.loop-way.table in
    let g1 = c.before_stamp.new.table in
    let g2 = c.both.new.table in
    let among = item_among c.args.base.now c.loop-way.way-index w c.loop-way-test.true e in
    let b = c.in_ok-before in
    let s = c.in_ok-headers in
    record {
      kept = keeps_then f g0 g2 c.loop-way.invariant.kept (keeps_then g0 g1 g2 b.ensures.kept s.ensures.kept);
      added = behind_more f g0 g1 g2 c.args.given b.before s.headers c.args.stamp c.args.base.now c.loop-way.way-index w c.since.result c.args.ways.now.items c.loop-way.ways.items c.add_way.new.ways.items c.requires.stamp c.loop-way.invariant.kept b.ensures.kept s.ensures.kept c.requires.given (c.requires.base_given w among).below c.loop-way-test.true e c.since.ensures b.ensures.set.exact s.ensures.set.exact c.loop-way.invariant.added c.in_ok-add_way.ensures;
    }

pub returns-clause-added : goal.returns-clause-added
returns-clause-added c =
    let f = c.args.table.now in
    subst (λ xs. AddsWays f c.loop-way.table (MakesBehind f c.args.given c.args.stamp xs) c.args.ways.now.items c.loop-way.ways.items) (take_all c.loop-way.way-index c.args.base.now c.loop-way-test.false) c.loop-way.invariant.added
