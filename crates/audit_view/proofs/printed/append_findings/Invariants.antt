use Rattle.std.proofs.Common.{◌≡◌, ◌++◌, take, flat_map}
use Rattle.result_text.specs.AuditText.{finding_text}
use Rattle.audit_view.specs.Audited.{audited_lists}
use Rattle.audit_view.proofs.printed.append_findings.Given as goal

abbrev pub invariant-loop-finding : goal.invariant-loop-finding
invariant-loop-finding l = l.out.items ≡ l.fn.out.items ++ flat_map (finding_text audited_lists) (take l.finding-index l.findings)
