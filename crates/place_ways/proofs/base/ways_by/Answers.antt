use Rattle.std.proofs.Common.{Some, subst}
use Rattle.net_types.specs.Moves.{moves_at}
use Rattle.net_view.specs.Borrowed.{seat_of}
use Rattle.place_ways.specs.Adding.{AddsWays, MakesAny}
use Rattle.place_ways.proofs.AddLemmas.{none_given, all_added}
use Rattle.place_ways.proofs.base.ways_by.Goals as goal

pub add_arrivals-requires-clause-ways : goal.add_arrivals-requires-clause-ways
add_arrivals-requires-clause-ways c = rw c.new-ways.ensures.items (none_given c.args.table.now)

pub returns-clause-moves : goal.returns-clause-moves
returns-clause-moves c =
    let s = c.args.at in
    let moves = moves_at s.wiring.now (Some (seat_of s.seat)) in
    all_added c.args.table.now c.add_arrivals.new.table s.scope moves c.add_arrivals.new.ways.items c.in_ok-add_arrivals.ensures.kept c.requires.at.scope (subst (λ xs. AddsWays c.args.table.now c.add_arrivals.new.table (MakesAny c.args.table.now s.scope moves) xs c.add_arrivals.new.ways.items) c.new-ways.ensures.items c.in_ok-add_arrivals.ensures.added)
