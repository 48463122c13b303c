use Rattle.std.proofs.Common.{◌≤◌, length, arith}
use Rattle.steal_pool.proofs.Measures.{weighs_less_as}
use Rattle.steal_pool.proofs.settling.finish.Goals as goal

pub loop-part-smaller : goal.loop-part-smaller
loop-part-smaller g c =
    let part = c.in-Some.part in let pieces = c.in_ok-pieces.pieces in
    let here = c.in-Some.ensures.found in let settled = c.in_ok-settle.ensures.settled here in
    let n = pieces.counted in let m = pieces.few in let few : length pieces.rest.items ≤ 256 = omega (arith, n, m) in
    weighs_less_as c.loop-part.board.tickets c.settle.new.board.tickets part.ticket part.region c.in_ok-settle.field-0.items here settled.1.tickets pieces.rest.items settled.0 c.in_ok-pieces.ensures.finer few
