use Rattle.canon_rows.proofs.RowLaws.{rows_are_constant}
use Rattle.canon_rows.proofs.laws.rows_are_constant.Goals as goal

pub returns : goal.returns
returns g c l = rows_are_constant (g.L.HeaderValues.value_of l)
