use Rattle.cube_diagram.specs.Functions.{Keeps}
use Rattle.loop_search.specs.Bounds.{AreBounds, AreInTable}
use Rattle.loop_search.proofs.bounds.narrow.Given as goal

abbrev pub invariant-loop-number : goal.invariant-loop-number
invariant-loop-number l = record {
  kept : Keeps l.fn.table l.table;
  below : AreInTable l.table l.bounds;
  bounds : AreBounds l.table l.net l.bounds;
}
