use Rattle.canon_rows.proofs.table.+number_of_pieces.Given as goal

abbrev pub decreases-number_of_pieces : goal.decreases-number_of_pieces
decreases-number_of_pieces l = l.width
