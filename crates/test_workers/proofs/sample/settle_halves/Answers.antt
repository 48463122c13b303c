use Rattle.std.proofs.Common.{refl}
use Rattle.task_board.proofs.Worked.{worked_halves}
use Rattle.test_workers.proofs.sample.settle_halves.Goals as goal

pub settle-requires-clause-worked : goal.settle-requires-clause-worked
settle-requires-clause-worked c κs = rw c.new.ensures.items (worked_halves _ c.args.region.now _ _ c.args.bit 0 0 refl refl c.split.ensures.low c.split.ensures.high)
