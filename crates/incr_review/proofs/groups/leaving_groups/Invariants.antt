use Rattle.std.proofs.Common.{take}
use Rattle.std.specs.Prelude.{filter}
use Rattle.cube_diagram.specs.Functions.{Keeps}
use Rattle.incr_review.specs.Again.{leaves}
use Rattle.incr_review.specs.Groups.{AreJoined}
use Rattle.incr_review.proofs.groups.leaving_groups.Given as goal

abbrev pub invariant-loop-region : goal.invariant-loop-region
invariant-loop-region l = record {
  joined : AreJoined l.fn.table (filter (leaves l.device) (take l.region-index l.regions)) l.table l.groups.items;
  kept : Keeps l.fn.table l.table;
}
