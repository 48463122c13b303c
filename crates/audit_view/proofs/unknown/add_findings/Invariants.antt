use Rattle.std.proofs.Common.{◌≡◌, ◌++◌, take, flat_map}
use Rattle.audit_view.specs.Audited.{finding_marks}
use Rattle.audit_view.proofs.unknown.add_findings.Given as goal

abbrev pub invariant-loop-finding : goal.invariant-loop-finding
invariant-loop-finding l = l.marks.items ≡ l.fn.marks.items ++ flat_map (finding_marks l.list) (take l.finding-index l.findings)
