use Rattle.std.proofs.Common.{◌≡◌, ◌<◌, ◌≤◌, ℕ, None}
use Rattle.task_board.specs.Stands.{region_at}
use Rattle.task_board.proofs.board.Board.next_open.Given as goal

abbrev pub invariant-loop-key : goal.invariant-loop-key
invariant-loop-key g l = (k : ℕ) → l.from ≤ k → k < l.key → region_at l.self-inside.tickets.slots k ≡ None
