use Rattle.std.proofs.Common.{refl, slice_index_or}
use Rattle.transfer_rel.specs.declared.moves.StampMove.TheVariants as stamped
use Rattle.region_walk.specs.Spots.{next_spot}
use Rattle.region_walk.proofs.LoopLemmas.{numbers_turn}
use Rattle.region_walk.proofs.visit.numbers_of.Goals as goal

pub loop-one-preserved : goal.loop-one-preserved
loop-one-preserved c =
    let both = numbers_turn next_spot c.args.moves.now c.loop-one.one-index (slice_index_or c.args.moves.now c.loop-one.one-index stamped.Drop) stamped.Drop c.args.spots.now.keys c.loop-one.spots.keys c.add_number_of.new.spots.keys c.loop-one.numbers.items c.add_number_of.new.numbers.items c.loop-one-test.true refl c.loop-one.invariant.adds c.loop-one.invariant.numbers c.in_ok-add_number_of.ensures in
    record { adds = both.0; numbers = both.1 }
