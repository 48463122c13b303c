use Rattle.acl_match.proofs.diagram.entry_numbers.Given as goal
use Rattle.std.proofs.Common.{take}
use Rattle.acl_match.proofs.NumberLemmas.{HasNumbers}

abbrev pub invariant-loop-e : goal.invariant-loop-e
invariant-loop-e l = HasNumbers l.initial.diagrams l.diagrams (take l.e-index l.entries) l.numbers.items
