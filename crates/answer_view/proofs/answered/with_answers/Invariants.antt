use Rattle.std.proofs.Common.{vec_len}
use Rattle.answer_view.specs.Answered.{answered_from}
use Rattle.answer_view.proofs.Paired.{ArePaired}
use Rattle.answer_view.proofs.answered.with_answers.Given as goal

abbrev pub invariant-loop-question : goal.invariant-loop-question
invariant-loop-question l = ArePaired l.answered.items l.asked.items l.before.items l.after.items (answered_from 1 l.fn.asked.items l.fn.before.items l.fn.after.items)

abbrev pub decreases-loop-question : goal.decreases-loop-question
decreases-loop-question l = vec_len l.asked
