use Rattle.std.proofs.Common.{take}
use Rattle.net_types.specs.Questions.{HasOutcomeAt}
use Rattle.region_walk.proofs.outcomes.some_is_at.Given as goal

abbrev pub invariant-loop-outcome : goal.invariant-loop-outcome
invariant-loop-outcome l = HasOutcomeAt l.place (take l.outcome-index l.outcomes) → ⊥
