use Rattle.std.proofs.Common.{◌≤◌, vec_len}
use Rattle.steal_pool.proofs.workers.crowd.Given as goal

abbrev pub invariant-loop-i : goal.invariant-loop-i
invariant-loop-i l = vec_len l.initial.thieves ≤ vec_len l.thieves
