use Rattle.std.proofs.Common.{◌+◌, ◌≤◌}
use Rattle.test_workers.proofs.drops.push_so_many.Given as goal

abbrev pub invariant-loop : goal.invariant-loop
invariant-loop l = l.count ≤ l.counter + l.rope.spare
