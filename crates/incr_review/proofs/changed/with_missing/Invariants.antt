use Rattle.std.proofs.Common.{take, ◌<◌}
use Rattle.cube_diagram.specs.Functions.{Keeps, count_of}
use Rattle.incr_review.specs.Changed.{HaveOthers, IsWider}
use Rattle.incr_review.proofs.changed.with_missing.Given as goal

abbrev pub invariant-loop-i : goal.invariant-loop-i
invariant-loop-i l = record {
  kept : Keeps l.fn.table l.table;
  below : l.all < count_of l.table;
  wider : IsWider l.fn.table l.set l.table l.all;
  others : HaveOthers l.fn.table l.table l.all (take l.i l.ways) l.others;
}
