use Rattle.audit_core.proofs.audits.append_lists.Given as goal
use Rattle.std.proofs.Common.{map, take}
use Rattle.audit_core.specs.Audits.{Appends}

abbrev pub invariant-loop-list : goal.invariant-loop-list
invariant-loop-list l = Appends (map (λ x. (l.file, x)) (take l.list-index l.lists)) l.fn.text.items l.text.items l.fn.before l.count
