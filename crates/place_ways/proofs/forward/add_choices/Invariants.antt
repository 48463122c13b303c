use Rattle.std.proofs.Common.{take, map}
use Rattle.cube_diagram.specs.Functions.{Keeps}
use Rattle.fib_lookup.specs.Forms.{hop_of}
use Rattle.net_types.specs.Moves.{move_by}
use Rattle.net_view.specs.Borrowed.{seat_of}
use Rattle.place_ways.specs.Adding.{AddsWays, MakesAny}
use Rattle.place_ways.proofs.forward.add_choices.Given as goal

abbrev pub invariant-loop-form : goal.invariant-loop-form
invariant-loop-form l =
    record {
      kept : Keeps l.fn.table l.table;
      added : AddsWays l.fn.table l.table (MakesAny l.fn.table l.given (λ g. map (move_by l.at.wiring.now (seat_of l.at.seat) g) (map (hop_of g.dst) (take l.form-index l.choices)))) l.fn.ways.ways.items l.ways.ways.items;
    }
