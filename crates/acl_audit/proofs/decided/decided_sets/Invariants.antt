use Rattle.acl_audit.proofs.decided.decided_sets.Given as goal
use Rattle.std.proofs.Common.{take, nat_eq}
use Rattle.indexmap.specs.IndexMap.{get}
use Rattle.acl_audit.proofs.LoopLemmas.{HasDecided}

abbrev pub invariant-loop-i : goal.invariant-loop-i
invariant-loop-i l = HasDecided l.fn.diagrams l.diagrams (take l.i l.entries) (get nat_eq l.decided) l.head
