use Rattle.std.proofs.Common.{◌≡◌, map, take}
use Rattle.region_walk.specs.Spots.{relative}
use Rattle.region_walk.proofs.visit.relative_moves.Given as goal

abbrev pub invariant-loop-one : goal.invariant-loop-one
invariant-loop-one l = l.told.items ≡ map (relative l.first l.before) (take l.one-index l.moves)
