use Rattle.std.proofs.Common.{◌≡◌, ◌+◌, vec_len}
use Rattle.steal_pool.proofs.workers.seats.Given as goal

abbrev pub invariant-loop-number : goal.invariant-loop-number
invariant-loop-number g l = (vec_len l.seats ≡ l.number) × (l.puts.parts + l.number ≡ l.count) × (l.puts.amount ≡ 0) × (l.turns.parts + l.number ≡ l.count) × (l.turns.amount ≡ 0)

abbrev pub invariant-loop-i : goal.invariant-loop-i
invariant-loop-i g l = vec_len l.seats ≡ vec_len l.initial.seats

abbrev pub invariant-loop-k : goal.invariant-loop-k
invariant-loop-k g l = vec_len l.seats ≡ vec_len l.initial.seats
