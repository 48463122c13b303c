use Rattle.std.proofs.Common.{take}
use Rattle.indexmap.specs.IndexMap.{get}
use Rattle.net_types.specs.World.{same_place}
use Rattle.live_network.specs.Clearing.{Clears}
use Rattle.live_network.proofs.clear.clear_places.Given as goal

abbrev pub invariant-loop-number : goal.invariant-loop-number
invariant-loop-number l = Clears l.device (take l.number-index l.numbers) (get same_place l.fn.positions) (get same_place l.positions)
