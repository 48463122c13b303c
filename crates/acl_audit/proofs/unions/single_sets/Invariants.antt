use Rattle.acl_audit.proofs.unions.single_sets.Given as goal
use Rattle.acl_audit.proofs.UnionLemmas.{HasSingles}

abbrev pub invariant-loop-e : goal.invariant-loop-e
invariant-loop-e l = HasSingles l.diagrams l.entries l.e-index l.sets.items
