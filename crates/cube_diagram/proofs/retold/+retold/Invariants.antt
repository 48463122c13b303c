use Rattle.cube_diagram.proofs.retold.+retold.Given as goal

abbrev pub decreases-retold : goal.decreases-retold
decreases-retold l = l.id
