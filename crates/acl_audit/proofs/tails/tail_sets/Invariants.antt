use Rattle.acl_audit.proofs.tails.tail_sets.Given as goal
use Rattle.acl_audit.proofs.LoopLemmas.{HasTails}

abbrev pub invariant-loop-count : goal.invariant-loop-count
invariant-loop-count l = HasTails l.fn.diagrams l.diagrams l.entries l.tails.items l.tail l.count
