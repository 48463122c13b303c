use Rattle.std.proofs.Common.{subst}
use Rattle.net_types.specs.Moves.{moves_in}
use Rattle.net_view.specs.Borrowed.{seat_of}
use Rattle.place_ways.specs.Adding.{AddsWays, MakesAny}
use Rattle.place_ways.proofs.AddLemmas.{none_given, all_added}
use Rattle.place_ways.proofs.forward.ways_in.Goals as goal

pub add_fates-requires-clause-ways : goal.add_fates-requires-clause-ways
add_fates-requires-clause-ways c = rw c.new-told.ensures (none_given c.args.table.now)

pub returns-clause-moves : goal.returns-clause-moves
returns-clause-moves c =
    let s = c.args.at in
    all_added c.args.table.now c.add_fates.new.table s.scope (moves_in s.wiring.now (seat_of s.seat)) c.add_fates.new.ways.ways.items c.in_ok-add_fates.ensures.kept c.requires.scope (subst (λ xs. AddsWays c.args.table.now c.add_fates.new.table (MakesAny c.args.table.now s.scope (moves_in s.wiring.now (seat_of s.seat))) xs c.add_fates.new.ways.ways.items) c.new-told.ensures c.in_ok-add_fates.ensures.added)
