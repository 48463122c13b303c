use Rattle.acl_match.proofs.list.add_pieces.Goals as goal
use Rattle.std.proofs.Common.{refl}
use Rattle.acl_match.proofs.ListLemmas.{pieces_more}

pub loop-cube-preserved : goal.loop-cube-preserved
loop-cube-preserved c =
    rw c.in_ok-push.ensures.items (pieces_more c.args.cubes.now c.args.permit c.args.pieces.now.items c.loop-cube.pieces.items c.loop-cube.cube-index c.cube-item.result (record { cube = c.cube-item.result; value = c.number_of-value.result }) c.loop-cube-test.true c.cube-item.is refl c.number_of-value.ensures c.loop-cube.invariant)
