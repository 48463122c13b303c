use Rattle.audit_core.proofs.text.append_each.Given as goal
use Rattle.std.proofs.Common.{◌≡◌, ◌++◌, take}
use Rattle.std.specs.List.{flat_map}
use Rattle.result_text.specs.AuditText.{finding_text}
use Rattle.audit_core.specs.AuditText.{audited_lists}

abbrev pub invariant-loop-finding : goal.invariant-loop-finding
invariant-loop-finding l = l.out.items ≡ l.fn.out.items ++ flat_map (finding_text audited_lists) (take l.finding-index l.findings)
