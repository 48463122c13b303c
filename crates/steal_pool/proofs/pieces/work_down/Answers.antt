use Rattle.steal_pool.proofs.pieces.work_down.Goals as goal

pub loop-preserved : goal.loop-preserved
loop-preserved g c = let e = c.in_ok-pieces-2.ensures in (e.worked c.args.region c.loop.invariant.0, e.finer c.args.region c.loop.invariant.1)
