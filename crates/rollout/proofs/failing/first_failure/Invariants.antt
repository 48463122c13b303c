use Rattle.std.proofs.Common.{◌≡◌, All, take}
use Rattle.rollout.proofs.StepLemmas.{IsHolds}
use Rattle.rollout.proofs.failing.first_failure.Given as goal

abbrev pub invariant-loop-answer : goal.invariant-loop-answer
invariant-loop-answer l = (l.question ≡ l.answer-index) × All IsHolds (take l.answer-index l.answers)
