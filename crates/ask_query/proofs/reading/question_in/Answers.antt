use Rattle.std.proofs.Common.{List, subst, ap, ◌∙◌, map}
use Rattle.net_text.specs.Lines.{piece}
use Rattle.net_types.specs.declared.text.Text.{Text}
use Rattle.ask_query.specs.Refusals.{Gives}
use Rattle.ask_query.specs.Reading.{question_at, said}
use Rattle.std.specs.Prelude.{option_map}
use Rattle.ask_query.proofs.reading.question_in.Goals as goal

pub returns : goal.returns
returns c =
    subst (λ ws. Gives (option_map said) c.read_line.result (question_at c.args.devices.now c.args.line.now.number ws))
    (c.deref.ensures.value ∙ c.in_ok-words.ensures ∙ ap (map (piece c.args.bytes.now)) c.as_slice.ensures)
    c.read_line.ensures
