use Rattle.std.proofs.Common.{◌≡◌, ◌++◌, take}
use Rattle.result_text.specs.AnswerText.{answers_from}
use Rattle.result_text.proofs.answers.append_answers.Given as goal

abbrev pub invariant-loop-i : goal.invariant-loop-i
invariant-loop-i l = l.out.items ≡ l.initial.out.items ++ answers_from 1 (take l.i l.answers)
