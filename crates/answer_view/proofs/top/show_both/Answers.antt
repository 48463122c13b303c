use Rattle.std.proofs.Common.{◌∙◌, ℕ, Ok, Err, IfSome, List, Option, length, subst}
use Rattle.net_io.specs.Files.{Told}
use Rattle.net_types.specs.declared.question.Answer.{Answer}
use Rattle.job_core.proofs.StepLemmas.{then_go, then_stop}
use Rattle.answer_view.specs.Views.{GivesAnswers, ShowsSince}
use Rattle.answer_view.proofs.top.show_both.Goals as goal

pub returns-in-Ok-clause-shows : goal.returns-in-Ok-clause-shows
returns-in-Ok-clause-shows g c =
    let told : Option Told = g.F.Files.told c.args.files.now in
    let asked = c.args.asked.items in
    let views = subst (λ (o : Option Told). IfSome o (λ t. ShowsSince t c.args.format c.args.after.now asked c.in-Ok.answers.items c.show_since.result)) c.in-Ok.ensures.same c.show_since.ensures.shows in
    then_go (λ t r. GivesAnswers (λ (xs : List Answer). xs) t c.args.before.now (length asked) r) (λ t xs r. ShowsSince t c.args.format c.args.after.now asked xs r) told c.in-Ok.answers.items c.show_since.result (subst (λ (n : ℕ). IfSome told (λ t. GivesAnswers {T = List Answer} (λ xs. xs) t c.args.before.now n (Ok c.in-Ok.answers.items))) (c.len.ensures ∙ c.args.asked.ok.0) c.in-Ok.ensures.answers) views

pub returns-in-Err-clause-shows : goal.returns-in-Err-clause-shows
returns-in-Err-clause-shows g c =
    let told : Option Told = g.F.Files.told c.args.files.now in
    let asked = c.args.asked.items in
    then_stop {A = List Answer} (λ t r. GivesAnswers (λ (xs : List Answer). xs) t c.args.before.now (length asked) r) (λ t xs r. ShowsSince t c.args.format c.args.after.now asked xs r) told c.in-Err.stop (subst (λ (n : ℕ). IfSome told (λ t. GivesAnswers {T = List Answer} (λ xs. xs) t c.args.before.now n (Err c.in-Err.stop))) (c.len.ensures ∙ c.args.asked.ok.0) c.in-Err.ensures.answers)
