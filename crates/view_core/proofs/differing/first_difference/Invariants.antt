use Rattle.std.proofs.Common.{◌≡◌, ◌≤◌, ◌+◌, ◌-◌, length}
use Rattle.view_core.proofs.SameLines.{same_from}
use Rattle.view_core.proofs.differing.first_difference.Given as goal

abbrev pub invariant-loop-at : goal.invariant-loop-at
invariant-loop-at l = record {
  first : l.at ≤ length l.a;
  second : l.at ≤ length l.b;
  same : l.at + same_from l.a l.b l.at ≡ same_from l.a l.b 0;
}

abbrev pub decreases-loop-at : goal.decreases-loop-at
decreases-loop-at l = length l.a - l.at
