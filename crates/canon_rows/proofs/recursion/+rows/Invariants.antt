use Rattle.canon_rows.proofs.recursion.+rows.Given as goal

abbrev pub decreases-rows : goal.decreases-rows
decreases-rows l = l.width
