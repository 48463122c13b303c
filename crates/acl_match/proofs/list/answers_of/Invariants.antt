use Rattle.acl_match.proofs.list.answers_of.Given as goal
use Rattle.std.proofs.Common.{take, map, ◌≡◌}
use Rattle.acl_match.proofs.ListLemmas.{answer}

abbrev pub invariant-loop-p : goal.invariant-loop-p
invariant-loop-p l = l.answers.items ≡ map answer (take l.p-index l.parts)
