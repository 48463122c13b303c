use Rattle.region_walk.proofs.ReturnLemmas.{NoneBelow}
use Rattle.region_walk.proofs.returns.has_loop.Given as goal

abbrev pub invariant-loop-n : goal.invariant-loop-n
invariant-loop-n l = NoneBelow l.visits l.levels l.limit l.n
