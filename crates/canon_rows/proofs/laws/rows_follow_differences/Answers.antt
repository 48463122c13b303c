use Rattle.canon_rows.proofs.LikeFunctions.{rows_follow_differences}
use Rattle.canon_rows.proofs.laws.rows_follow_differences.Goals as goal

pub returns : goal.returns
returns g c l m = rows_follow_differences (g.L.HeaderValues.value_of l) (g.M.HeaderValues.value_of m)
