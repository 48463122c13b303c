use Rattle.std.proofs.Common.{◌≡◌, ◌+◌, ◌≤◌, length}
use Rattle.doctor_warnings.specs.Lines.{start_behind}
use Rattle.doctor_warnings.proofs.lines.start_behind.Given as goal

abbrev pub invariant-loop-left : goal.invariant-loop-left
invariant-loop-left l = record {
  value : start_behind l.bytes l.left l.start ≡ start_behind l.bytes l.fn.count 0;
  within : l.start + l.left ≤ length l.bytes + l.fn.count;
  few : l.left ≤ l.fn.count;
}

abbrev pub decreases-loop-left : goal.decreases-loop-left
decreases-loop-left l = l.left
