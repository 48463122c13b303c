use Rattle.canon_rows.proofs.RowLaws.{rows_cover}
use Rattle.canon_rows.proofs.laws.rows_cover.Goals as goal

pub returns : goal.returns
returns g c l = rows_cover (g.L.HeaderValues.value_of l)
