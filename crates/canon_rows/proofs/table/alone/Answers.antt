use Rattle.canon_rows.proofs.NodeSteps.{fits_all}
use Rattle.canon_rows.proofs.table.alone.Goals as goal

pub invariant_of-cube-clause-below : goal.invariant_of-cube-clause-below
invariant_of-cube-clause-below c = fits_all c.args.fixed c.args.width c.requires.width c.if-fixed-width.true
