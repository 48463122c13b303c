use Rattle.std.proofs.Common.{◌≤◌, ◌<◌, length}
use Rattle.view_core.proofs.faults.fault_line.Given as goal

-- a line was counted for each that there was
abbrev pub invariant-loop-line : goal.invariant-loop-line
invariant-loop-line l = record {
  low : 0 < length l.yielded → 1 ≤ l.number;
  high : l.number ≤ length l.yielded;
}
