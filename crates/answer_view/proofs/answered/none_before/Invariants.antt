use Rattle.std.proofs.Common.{◌≡◌, take, map}
use Rattle.std.specs.Prelude.{None}
use Rattle.answer_view.proofs.answered.none_before.Given as goal

abbrev pub invariant-loop-answer : goal.invariant-loop-answer
invariant-loop-answer l = l.before.items ≡ map (λ a. None) (take l._answer-index l.after)
