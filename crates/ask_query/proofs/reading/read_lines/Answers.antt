use Rattle.std.proofs.Common.{◌≡◌, sym, subst, ap, refl, ◌∙◌, map, ◌++◌, rules, Vec, Global}
use Rattle.std.specs.Prelude.{Result, Err, option_map, option_to_list}
use Rattle.net_text.specs.Lines.{piece}
use Rattle.net_types.specs.declared.question.Question.{Question}
use Rattle.ask_query.specs.declared.refusal.QuestionFail.{QuestionFail}
use Rattle.ask_query.specs.Refusals.{Gives}
use Rattle.ask_query.specs.Reading.{questions_in, said}
use Rattle.ask_query.proofs.ReadingLemmas.{goes_on, ends, first_line, last_line, said_more}
use Rattle.ask_query.proofs.reading.read_lines.Goals as goal

pub loop-line-init : goal.loop-line-init
loop-line-init c = first_line c.args.devices.now c.args.bytes.now c.args.lines.now (map said c.new-questions.result.items) (ap (map said) c.new-questions.ensures.items)

pub returns-in_err-question : goal.returns-in_err-question
returns-in_err-question c =
    let words = map (piece c.args.bytes.now) c.line-item.result.words in
    let first = ends c.args.devices.now c.args.bytes.now c.in_err-question.field-0.0 c.args.lines.now c.loop-line.line-index c.line-item.result words (map said c.loop-line.questions.items) _ c.loop-line-test.true c.line-item.is refl c.in_err-question.ensures c.loop-line.invariant in
    let handed : c.from_residual.result ≡ Err c.in_err-question.field-0.0 = search rules in
    subst (λ (r : Result (Vec Question Global) QuestionFail). Gives (λ qs. map said qs.items) r (questions_in c.args.devices.now c.args.bytes.now c.args.lines.now)) (sym handed) first

pub loop-line-preserved : goal.loop-line-preserved
loop-line-preserved c =
    let words = map (piece c.args.bytes.now) c.line-item.result.words in
    let read = goes_on c.args.devices.now c.args.bytes.now c.args.lines.now c.loop-line.line-index c.line-item.result words (map said c.loop-line.questions.items) (option_map said c.in_ok-question.question) _ c.loop-line-test.true c.line-item.is refl c.in_ok-question.ensures c.loop-line.invariant in
    let more : map said c.add.new.questions.items ≡ map said c.loop-line.questions.items ++ option_to_list (option_map said c.in_ok-question.question) = ap (map said) c.in_ok-add.ensures ∙ said_more c.loop-line.questions.items c.in_ok-question.question in
    rw more read

pub returns : goal.returns
returns c = last_line c.args.devices.now c.args.bytes.now c.args.lines.now c.loop-line.line-index (map said c.loop-line.questions.items) _ c.loop-line-test.false c.loop-line.invariant
