use Rattle.std.proofs.Common.{◌≤◌, length}
use Rattle.audit_view.proofs.Reading.{IsBehind}
use Rattle.audit_view.proofs.findings.read_back.Given as goal

abbrev pub invariant-loop-at : goal.invariant-loop-at
invariant-loop-at l = record {
  within : l.at ≤ length l.lines;
  read : IsBehind l.lines l.at l.behind;
}

abbrev pub decreases-loop-at : goal.decreases-loop-at
decreases-loop-at l = l.at
