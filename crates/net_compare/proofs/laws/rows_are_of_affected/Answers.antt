use Rattle.canon_rows.proofs.RowLaws.{rows_are_constant, rows_are_disjoint, rows_cover}
use Rattle.hdr_bits.proofs.OneList.{rows_are_one_list}
use Rattle.net_types.specs.Report.{affected}
use Rattle.net_types.proofs.LabelLaws.{pair_decided}
use Rattle.net_compare.proofs.laws.rows_are_of_affected.Goals as goal

pub returns-clause-disjoint : goal.returns-clause-disjoint
returns-clause-disjoint c old new t p = rows_are_disjoint (affected old new t p)

pub returns-clause-constant : goal.returns-clause-constant
returns-clause-constant c old new t p = rows_are_constant (affected old new t p)

pub returns-clause-cover : goal.returns-clause-cover
returns-clause-cover c old new t p = rows_cover (affected old new t p) pair_decided

pub returns-clause-one_list : goal.returns-clause-one_list
returns-clause-one_list c old new t p = rows_are_one_list (affected old new t p)
