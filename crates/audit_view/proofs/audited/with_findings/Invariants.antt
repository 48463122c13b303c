use Rattle.std.proofs.Common.{reverse, vec_len}
use Rattle.audit_view.specs.Audited.{with_findings}
use Rattle.audit_view.proofs.Pairs.{ArePaired}
use Rattle.audit_view.proofs.audited.with_findings.Given as goal

abbrev pub invariant-loop-list : goal.invariant-loop-list
invariant-loop-list l = ArePaired l.audited.items l.lists.items l.said.items (with_findings l.fn.lists.items (reverse l.fn.said.items))

abbrev pub decreases-loop-list : goal.decreases-loop-list
decreases-loop-list l = vec_len l.lists
