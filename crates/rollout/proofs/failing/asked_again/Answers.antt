use Rattle.std.proofs.Common.{◌+◌, ◌∙◌, ◌++◌, false, List, drop, ap}
use Rattle.net_types.specs.declared.question.Question.{Question}
use Rattle.rollout.specs.Touched.{asked_again}
use Rattle.rollout.proofs.TouchedLemmas.{passed_over, some_of, taken}
use Rattle.rollout.proofs.failing.asked_again.Goals.{then-touched-i+in_ok-push, else-touched-i}
use Rattle.rollout.proofs.failing.asked_again.Goals as goal

pub loop-i-preserved : goal.loop-i-preserved
loop-i-preserved c =
    let questions = c.args.questions.now in
    let touched = c.args.touched.now in
    let i = c.loop-i.i in
    let rest : List Question = asked_again (drop (i + 1) questions) (drop (i + 1) touched) in
    elim c.if-touched-i.branch [
      | then-touched-i+in_ok-push w ↦
          let q = w.index-questions-i.result in
          let more = taken c.loop-i.asked.items questions touched i q q false c.requires c.loop-i-test.true w.if-touched-i.true w.index-questions-i.is c.loop-i.invariant in
          ap (λ v. v.items ++ rest) w.asked-is ∙ ap (λ qs. qs ++ rest) w.in_ok-push.ensures.items ∙ more
      | else-touched-i w ↦
          let more = passed_over c.loop-i.asked.items questions touched i (some_of questions i c.loop-i-test.true) false c.requires c.loop-i-test.true w.if-touched-i.false c.loop-i.invariant in
          ap (λ v. v.items ++ rest) w.asked-is ∙ more
    ]
