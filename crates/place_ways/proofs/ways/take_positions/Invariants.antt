use Rattle.std.proofs.Common.{take}
use Rattle.indexmap.specs.IndexMap.{get}
use Rattle.net_types.specs.World.{same_place}
use Rattle.place_ways.specs.Places.{TakesPositions}
use Rattle.place_ways.proofs.ways.take_positions.Given as goal

abbrev pub invariant-loop-number : goal.invariant-loop-number
invariant-loop-number l =
    TakesPositions l.name (take l.number-index l.numbers) (get same_place l.known) (get same_place l.fn.positions) (get same_place l.positions)
