use Rattle.cube_alg.proofs.StampLemmas.{then_fields}
use Rattle.cube_alg.proofs.stamp.Stamp.then.Goals as goal

pub returns-clause-both : goal.returns-clause-both
returns-clause-both c h =
    rw (c.or.ensures, c.or-2.ensures, c.or-3.ensures, c.or-4.ensures) (then_fields c.args.self.now c.args.later.now h)
