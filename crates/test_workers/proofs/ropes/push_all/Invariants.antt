use Rattle.std.proofs.Common.{◌+◌, ◌≤◌, length}
use Rattle.test_workers.proofs.ropes.push_all.Given as goal

abbrev pub invariant-loop-item : goal.invariant-loop-item
invariant-loop-item l = length l.items ≤ l.item-index + l.rope.spare
