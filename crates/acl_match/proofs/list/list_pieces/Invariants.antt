use Rattle.acl_match.proofs.list.list_pieces.Given as goal
use Rattle.std.proofs.Common.{take}
use Rattle.acl_match.proofs.ListLemmas.{SaysEntries}

abbrev pub invariant-loop-e : goal.invariant-loop-e
invariant-loop-e l = SaysEntries l.pieces.items (take l.e-index l.entries)
