use Rattle.std.proofs.Common.{◌≡◌}
use Rattle.test_workers.proofs.ropes.pops.Given as goal

abbrev pub invariant-loop : goal.invariant-loop
invariant-loop l = l.rope.spare ≡ l.fn.rope.spare
