use Rattle.std.proofs.Common.{◌≡◌, ◌++◌, take}
use Rattle.std.specs.Prelude.{flat_map}
use Rattle.walk_trace.specs.Outcomes.{outcomes_at}
use Rattle.walk_trace.proofs.outcomes.add_outcomes_at.Given as goal

abbrev pub invariant-loop-state : goal.invariant-loop-state
invariant-loop-state l = l.found.items ≡ l.initial.found.items ++ flat_map (outcomes_at l.site l.last l.first) (take l.state-index l.states)
