use Rattle.canon_rows.proofs.CanonicalRows.{piece_holds, piece_passes, no_piece_holds, apart_values}
use Rattle.canon_rows.proofs.laws.pieces_give_values.Goals as goal

pub returns-clause-held : goal.returns-clause-held
returns-clause-held c p ps h i = piece_holds p ps h i

pub returns-clause-passed : goal.returns-clause-passed
returns-clause-passed c p ps h n = piece_passes p ps h n

pub returns-clause-nowhere : goal.returns-clause-nowhere
returns-clause-nowhere c ps h a = no_piece_holds ps h a

pub returns-clause-apart : goal.returns-clause-apart
returns-clause-apart c ps a = apart_values ps a
