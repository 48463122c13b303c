use Rattle.std.proofs.Common.{◌≡◌, ◌++◌, take, flat_map}
use Rattle.answer_view.specs.ShownText.{question_part}
use Rattle.answer_view.proofs.text.append_questions.Given as goal

abbrev pub invariant-loop-one : goal.invariant-loop-one
invariant-loop-one l = l.out.items ≡ l.fn.out.items ++ flat_map (question_part l.group) (take l.one-index l.answered)
