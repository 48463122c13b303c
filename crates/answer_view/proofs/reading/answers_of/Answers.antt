use Rattle.std.proofs.Common.{◌≡◌, List, Vec, Global, map, flat_map, subst, ap, ◌∙◌, arith}
use Rattle.net_types.specs.declared.question.Answer.{Answer}
use Rattle.answer_view.specs.Said.{said_at, said_in}
use Rattle.answer_view.specs.Views.{IsFault}
use Rattle.answer_view.proofs.ReadingLemmas.{said_by_lines, other_says}
use Rattle.answer_view.proofs.reading.answers_of.Goals as goal

pub returns-in-Some-clause-says : goal.returns-in-Some-clause-says
returns-in-Some-clause-says c =
    let bytes = c.args.bytes.now in
    let answers = c.in_ok-answers.answers.items in
    let said : answers ≡ said_in bytes = said_by_lines _ bytes answers c.in_ok-lines.ensures (c.in_ok-answers.ensures.value ∙ ap (λ ls. flat_map said_at (map (λ line. line.now) ls)) c.deref.ensures.value) in
    let fault = subst (λ o. IsFault answers bytes o) c.in-Some.is (subst (λ (xs : List Answer). IsFault xs bytes c.in_ok-line.field-0) c.deref-3.ensures.value c.in_ok-line.ensures) in
    other_says {T = Vec Answer Global} (λ v. v.items) c.args.path.now c.args.count bytes answers c.in-Some.line c.in_ok-refused-in-Some.field-0 said (omega arith) fault c.in_ok-refused-in-Some.ensures
