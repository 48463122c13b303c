use Rattle.std.proofs.Common.{◌∙◌, get_or}
use Rattle.std.proofs.lemmas.List.{get_or_default}
use Rattle.net_types.specs.declared.question.Answer.{Answer}
use Rattle.net_types.specs.declared.question.Answer.TheVariants.{Holds}
use Rattle.result_text.proofs.AnswerLemmas.{answers_more}
use Rattle.result_text.proofs.answers.append_answers.Goals as goal

pub loop-i-preserved : goal.loop-i-preserved
loop-i-preserved c =
    let xs = c.args.answers.now in
    let i = c.loop-i.i in
    let a : Answer = get_or xs i Holds in
    let e = get_or_default xs i Holds a c.loop-i-test.true in
    c.in_ok-append_answer.ensures ∙ answers_more xs i a c.args.out.now.items c.loop-i.out.items c.loop-i-test.true e c.loop-i.invariant
