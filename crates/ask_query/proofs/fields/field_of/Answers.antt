use Rattle.ask_query.proofs.FieldLemmas.{is_field, is_field_of}
use Rattle.ask_query.proofs.fields.field_of.Goals as goal

pub returns-clause-value : goal.returns-clause-value
returns-clause-value c = is_field_of c.args.field c.place.result c.place.ensures c.args.word.now c.read_field.result c.read_field.ensures.field c.read_field.ensures.all

pub returns-clause-field : goal.returns-clause-field
returns-clause-field c = is_field c.args.field c.place.result c.place.ensures c.args.word.now c.read_field.result c.read_field.ensures.field
