use Rattle.std.proofs.Common.{◌∙◌, ℕ, Ok, Err, IfSome, subst, List, Option, length, map}
use Rattle.std.specs.Prelude.{None, false}
use Rattle.net_io.specs.Files.{Told}
use Rattle.net_types.specs.declared.question.Answer.{Answer}
use Rattle.job_core.proofs.StepLemmas.{then_go, then_stop, however_told}
use Rattle.answer_view.specs.Answered.{answered_from}
use Rattle.answer_view.specs.Views.{GivesAnswers, Views}
use Rattle.answer_view.proofs.top.show_alone.Goals as goal

pub returns-in-Ok-clause-shows : goal.returns-in-Ok-clause-shows
returns-in-Ok-clause-shows g c =
    let told : Option Told = g.F.Files.told c.args.files.now in
    let asked = c.args.asked.items in
    then_go (λ t r. GivesAnswers (λ (xs : List Answer). xs) t c.args.after.now (length asked) r) (λ t xs r. Views c.args.format false (answered_from 1 asked (map (λ a. None) xs) xs) r) told c.in-Ok.answers.items c.view_alone.result (subst (λ (n : ℕ). IfSome told (λ t. GivesAnswers {T = List Answer} (λ xs. xs) t c.args.after.now n (Ok c.in-Ok.answers.items))) (c.len.ensures ∙ c.args.asked.ok.0) c.in-Ok.ensures.answers) (however_told told c.view_alone.ensures.views)

pub returns-in-Err-clause-shows : goal.returns-in-Err-clause-shows
returns-in-Err-clause-shows g c =
    let told : Option Told = g.F.Files.told c.args.files.now in
    let asked = c.args.asked.items in
    then_stop {A = List Answer} (λ t r. GivesAnswers (λ (xs : List Answer). xs) t c.args.after.now (length asked) r) (λ t xs r. Views c.args.format false (answered_from 1 asked (map (λ a. None) xs) xs) r) told c.in-Err.stop (subst (λ (n : ℕ). IfSome told (λ t. GivesAnswers {T = List Answer} (λ xs. xs) t c.args.after.now n (Err c.in-Err.stop))) (c.len.ensures ∙ c.args.asked.ok.0) c.in-Err.ensures.answers)
