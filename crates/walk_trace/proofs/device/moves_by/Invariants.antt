use Rattle.std.proofs.Common.{◌≡◌, take, map}
use Rattle.net_types.specs.Moves.{move_by}
use Rattle.net_view.specs.Borrowed.{seat_of}
use Rattle.walk_trace.proofs.device.moves_by.Given as goal

abbrev pub invariant-loop-hop : goal.invariant-loop-hop
invariant-loop-hop l = l.answer.items ≡ map (move_by l.site (seat_of l.seat) l.h) (take l.hop-index l.hops)
