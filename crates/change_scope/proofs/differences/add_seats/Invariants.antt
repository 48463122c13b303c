use Rattle.std.proofs.Common.{◌<◌}
use Rattle.cube_diagram.specs.Functions.{Keeps, count_of}
use Rattle.change_scope.specs.Differences.{HasAll, SeatsAgreeBelow}
use Rattle.change_scope.specs.Translated.{ByDestination}
use Rattle.change_scope.proofs.differences.add_seats.Given as goal

abbrev pub invariant-loop-i : goal.invariant-loop-i
invariant-loop-i l = record {
  kept : Keeps l.fn.table l.table;
  below : l.all < count_of l.table;
  by : ByDestination l.table l.all;
  more : HasAll l.fn.table l.set l.table l.all;
  agree : SeatsAgreeBelow l.fn.table l.a l.b l.i l.table l.all;
}
