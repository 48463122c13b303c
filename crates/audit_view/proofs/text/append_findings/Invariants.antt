use Rattle.std.proofs.Common.{◌≡◌, ◌++◌, take, flat_map}
use Rattle.audit_view.specs.ShownText.{open_text}
use Rattle.audit_view.proofs.text.append_findings.Given as goal

abbrev pub invariant-loop-finding : goal.invariant-loop-finding
invariant-loop-finding l = l.out.items ≡ l.fn.out.items ++ flat_map (open_text l.rows l.list) (take l.finding-index l.findings)
