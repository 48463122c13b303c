use Rattle.acl_audit.proofs.sets.match_sets.Given as goal
use Rattle.acl_audit.proofs.LoopLemmas.{HasMatched}

abbrev pub invariant-loop-e : goal.invariant-loop-e
invariant-loop-e l = HasMatched l.fn.diagrams l.diagrams l.entries l.e-index l.sets.items
