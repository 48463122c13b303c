use Rattle.canon_rows.proofs.table.+rows_of.Given as goal

abbrev pub decreases-rows_of : goal.decreases-rows_of
decreases-rows_of l = l.width
