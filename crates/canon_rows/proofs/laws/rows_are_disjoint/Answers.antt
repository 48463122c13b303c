use Rattle.canon_rows.proofs.RowLaws.{rows_are_disjoint}
use Rattle.canon_rows.proofs.laws.rows_are_disjoint.Goals as goal

pub returns : goal.returns
returns g c l = rows_are_disjoint (g.L.HeaderValues.value_of l)
