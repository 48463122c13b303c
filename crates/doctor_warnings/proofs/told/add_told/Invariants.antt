use Rattle.std.proofs.Common.{◌≡◌, ◌≤◌, ◌+◌, ◌^◌, ◌++◌, length}
use Rattle.doctor_warnings.specs.Told.{told_at, told_from}
use Rattle.doctor_warnings.proofs.told.add_told.Given as goal

abbrev pub invariant-loop-left : goal.invariant-loop-left
invariant-loop-left l = record {
  told : l.told.items ++ told_from l.bytes l.passed l.number l.start l.left ≡ l.fn.told.items ++ told_at l.bytes l.passed;
  few : l.number + l.left ≤ 2 ^ 33;
  within : l.start ≤ length l.bytes + l.number;
}

abbrev pub decreases-loop-left : goal.decreases-loop-left
decreases-loop-left l = l.left
