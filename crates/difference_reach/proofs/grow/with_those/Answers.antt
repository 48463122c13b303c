use Rattle.std.proofs.Common.{arith}
use Rattle.difference_reach.proofs.grow.with_those.Goals as goal

pub returns-clause-set : goal.returns-clause-set
returns-clause-set c = grind arith
