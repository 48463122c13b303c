use Rattle.audit_core.proofs.text.append_all_taken.Given as goal
use Rattle.std.proofs.Common.{◌≡◌, ◌++◌, take}
use Rattle.std.specs.List.{flat_map}
use Rattle.result_text.specs.AuditText.{taken_text}
use Rattle.audit_core.specs.AuditText.{audited_lists}

abbrev pub invariant-loop-one : goal.invariant-loop-one
invariant-loop-one l = l.out.items ≡ l.fn.out.items ++ flat_map (taken_text audited_lists) (take l.one-index l.taken)
