use Rattle.std.proofs.Common.{ℕ, List, Option, Vec, Global, subst}
use Rattle.net_io.specs.Files.{Told}
use Rattle.net_types.specs.declared.question.Answer.{Answer}
use Rattle.answer_view.specs.Views.{SaysAnswers}
use Rattle.answer_view.proofs.ReadingLemmas.{file_gives, no_file_gives}
use Rattle.answer_view.proofs.reading.read_answers.Goals as goal

pub returns-in-Ok-clause-answers : goal.returns-in-Ok-clause-answers
returns-in-Ok-clause-answers g c =
    let told : Option Told = g.F.Files.told c.args.files.now in
    let says = subst (λ (b : List ℕ). SaysAnswers {T = Vec Answer Global} (λ v. v.items) c.args.path.now c.args.count b c.answers_of.result) c.deref.ensures.value c.answers_of.ensures.says in
    file_gives {T = Vec Answer Global} (λ v. v.items) c.args.path.now c.args.count c.in-Ok.bytes.items told c.answers_of.result c.in-Ok.ensures.bytes says

pub returns-in-Err-clause-answers : goal.returns-in-Err-clause-answers
returns-in-Err-clause-answers g c =
    let told : Option Told = g.F.Files.told c.args.files.now in
    no_file_gives {T = Vec Answer Global} (λ v. v.items) c.args.path.now c.args.count told c.in-Err.stop c.in-Err.ensures.bytes
