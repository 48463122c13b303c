use Rattle.std.proofs.Common.{◌+◌, All, ap, subst, sym}
use Rattle.std.proofs.lemmas.List.{take_all}
use Rattle.net_types.specs.declared.question.Answer.TheVariants as answer
use Rattle.rollout.specs.Steps.{FirstFails}
use Rattle.rollout.proofs.StepLemmas.{IsHolds, all_hold, first_fails}
use Rattle.rollout.proofs.failing.first_failure.Goals as goal

pub returns-in-Fails : goal.returns-in-Fails
returns-in-Fails c w t questions are =
    let known = c.loop-answer.invariant in
    subst (λ n. FirstFails t questions n c.in-Fails.header w) (ap (λ n. n + 1) (sym known.0))
    (first_fails w t questions c.args.answers.now c.loop-answer.answer-index answer.Holds c.in-Fails.header c.loop-answer-test.true c.in-Fails.is known.1 are)

pub returns : goal.returns
returns c w t questions are =
    let all = subst (All IsHolds) (take_all c.loop-answer.answer-index c.args.answers.now c.loop-answer-test.false) c.loop-answer.invariant.1 in
    all_hold w t questions c.args.answers.now all are
