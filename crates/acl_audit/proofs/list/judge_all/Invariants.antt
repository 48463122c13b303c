use Rattle.acl_audit.proofs.list.judge_all.Given as goal
use Rattle.acl_audit.proofs.FindingLemmas.{HasFindings}

abbrev pub invariant-loop-i : goal.invariant-loop-i
invariant-loop-i l = HasFindings l.fn.diagrams l.diagrams l.audited.entries.now l.i l.head l.findings.items
