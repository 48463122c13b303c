use Rattle.std.proofs.Common.{sym, ap, ◌∙◌}
use Rattle.report_text.specs.Reading.{field_of}
use Rattle.report_text.proofs.FieldLaws.{field_back, field_kept}
use Rattle.report_text.proofs.field_reader.read_field.Goals as goal

pub returns-clause-field : goal.returns-clause-field
returns-clause-field c = field_kept c.args.field c.args.word.now c.field_of.result c.field_of.ensures.value c.field_of.ensures.below

pub returns-clause-all : goal.returns-clause-all
returns-clause-all c = λ fixed bits h e. c.field_of.ensures.value ∙ ap (field_of c.args.field) (sym e) ∙ field_back c.args.field fixed bits h
