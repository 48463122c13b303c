use Rattle.std.proofs.Common.{◌≡◌, take, map}
use Rattle.net_view.specs.Borrowed.{seat_of}
use Rattle.walk_trace.specs.Traced.{choice_by}
use Rattle.walk_trace.proofs.told.choices_by.Given as goal

abbrev pub invariant-loop-hop : goal.invariant-loop-hop
invariant-loop-hop l = l.told.items ≡ map (choice_by l.frame.site.now l.frame.numbers.now l.frame.first.now (seat_of l.seat) l.h) (take l.hop-index l.hops)
