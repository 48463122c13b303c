use Rattle.acl_audit.proofs.unions.pair_sets.Given as goal
use Rattle.acl_audit.proofs.UnionLemmas.{HasPairs}

abbrev pub invariant-loop-k : goal.invariant-loop-k
invariant-loop-k l = HasPairs l.fn.diagrams l.diagrams l.sets l.k l.unions.items
