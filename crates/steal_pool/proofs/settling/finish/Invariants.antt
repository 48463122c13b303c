use Rattle.std.proofs.Common.{◌≡◌}
use Rattle.steal_pool.proofs.Measures.{open_weight}
use Rattle.steal_pool.proofs.settling.finish.Given as goal

abbrev pub invariant-loop-part : goal.invariant-loop-part
invariant-loop-part g l = l.board.roots ≡ l.initial.board.roots

abbrev pub decreases-loop-part : goal.decreases-loop-part
decreases-loop-part g l = open_weight l.board.tickets
