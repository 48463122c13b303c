use Rattle.std.proofs.Common.{◌≡◌}
use Rattle.region_walk.specs.Visits.{states_below}
use Rattle.region_walk.proofs.level.states_below.Given as goal

abbrev pub invariant-loop-n : goal.invariant-loop-n
invariant-loop-n l = l.states.items ≡ states_below l.levels l.n
