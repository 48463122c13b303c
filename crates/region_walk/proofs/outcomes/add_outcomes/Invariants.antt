use Rattle.std.proofs.Common.{◌≡◌, ◌++◌, take}
use Rattle.std.specs.Prelude.{flat_map}
use Rattle.region_walk.specs.Lists.{items_at}
use Rattle.region_walk.specs.Visits.{visit_outcomes}
use Rattle.region_walk.proofs.outcomes.add_outcomes.Given as goal

abbrev pub invariant-loop-state : goal.invariant-loop-state
invariant-loop-state l = l.outcomes.items ≡ l.initial.outcomes.items ++ flat_map (visit_outcomes l.last) (items_at l.visits (take l.state-index l.states))
