use Rattle.hdr_bits.proofs.OneList.{rows_are_one_list}
use Rattle.canon_rows.proofs.laws.rows_are_one_list.Goals as goal

pub returns : goal.returns
returns g c l = rows_are_one_list (g.L.HeaderValues.value_of l)
