use Rattle.steal_pool.specs.Paths.{begins}
use Rattle.steal_pool.proofs.PathLemmas.{total_append}
use Rattle.steal_pool.proofs.Steps.{merges}
use Rattle.steal_pool.proofs.ends.Owner.gain.Goals as goal

pub absorb-requires-clause-rule : goal.absorb-requires-clause-rule
absorb-requires-clause-rule c = let port = c.self.invariant.1 in rw port (merges _ _ _ _ (λ w. total_append (begins w) _ _))
