use Rattle.std.proofs.Common.{◌≡◌, ◌+◌, ◌≤◌, length}
use Rattle.steal_pool.proofs.workers.hand_out.Given as goal

abbrev pub invariant-loop-k : goal.invariant-loop-k
invariant-loop-k g l = (length l.seats ≡ length l.initial.seats) × (l.puts.total ≡ l.initial.puts.total + l.pushed) × (l.pushed ≤ l.k)
