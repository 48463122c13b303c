use Rattle.task_board.specs.Stands.{IsWorked}
use Rattle.steal_pool.specs.Pieces.{AreFiner}
use Rattle.steal_pool.proofs.pieces.work_down.Given as goal

abbrev pub invariant-loop : goal.invariant-loop
invariant-loop g l = IsWorked g.K.Call.gives l.fn.region l.pieces.finished.items l.pieces.rest.items × AreFiner l.fn.region l.pieces.rest.items
