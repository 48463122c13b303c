use Rattle.std.proofs.Common.{◌≡◌, ◌++◌, take, flat_map}
use Rattle.result_text.specs.AuditText.{taken_text}
use Rattle.audit_view.specs.Audited.{audited_lists}
use Rattle.audit_view.proofs.printed.append_all_taken.Given as goal

abbrev pub invariant-loop-one : goal.invariant-loop-one
invariant-loop-one l = l.out.items ≡ l.fn.out.items ++ flat_map (taken_text audited_lists) (take l.one-index l.taken)
