use Rattle.cube_diagram.specs.Functions.{Keeps}
use Rattle.loop_search.specs.Bounds.{AreBounds, AreInTable}
use Rattle.loop_search.proofs.bounds.sweep_forth.Given as goal

abbrev pub invariant-loop-index : goal.invariant-loop-index
invariant-loop-index l = record {
  kept : Keeps l.fn.table l.table;
  below : AreInTable l.table l.bounds;
  bounds : AreBounds l.table l.net l.bounds;
}
