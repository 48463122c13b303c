use Rattle.std.proofs.Common.{◌≡◌, take}
use Rattle.std.specs.Prelude.{flat_map}
use Rattle.region_walk.specs.Lists.{items_at}
use Rattle.region_walk.specs.Visits.{next_numbers}
use Rattle.region_walk.proofs.level.next_states.Given as goal

abbrev pub invariant-loop-state : goal.invariant-loop-state
invariant-loop-state l = l.next.items ≡ flat_map next_numbers (items_at l.visits (take l.state-index l.states))
