use Rattle.std.proofs.Common.{◌≡◌, ◌++◌, take}
use Rattle.std.specs.Prelude.{filter_map}
use Rattle.region_walk.specs.Spots.{outcome_of_move}
use Rattle.region_walk.proofs.outcomes.add_outcomes_by.Given as goal

abbrev pub invariant-loop-one : goal.invariant-loop-one
invariant-loop-one l = l.outcomes.items ≡ l.initial.outcomes.items ++ filter_map (outcome_of_move l.last) (take l.one-index l.moves)
