use Rattle.std.proofs.Common.{take, ◌<◌}
use Rattle.std.specs.Prelude.{Contains}
use Rattle.cube_diagram.specs.Functions.{Keeps, count_of}
use Rattle.incr_review.specs.Changed.{AgreeAtNumbers}
use Rattle.incr_review.proofs.changed.changed_headers.Given as goal

abbrev pub invariant-loop-i : goal.invariant-loop-i
invariant-loop-i l = record {
  kept : Keeps l.fn.table l.table;
  below : l.set < count_of l.table;
  agree : AgreeAtNumbers l.fn.table l.table l.set l.change (Contains (take l.i l.change.device.now.numbers));
}
