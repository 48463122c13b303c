use Rattle.cube_alg.proofs.StampLemmas.{changed_same}
use Rattle.cube_alg.proofs.stamp.Stamp.changes.Goals as goal

pub returns-clause-same : goal.returns-clause-same
returns-clause-same c =
    rw (c.unless_same.ensures, c.unless_same-2.ensures, c.unless_same_port.ensures, c.unless_same_port-2.ensures) (changed_same c.args.self.now c.args.h.now)
