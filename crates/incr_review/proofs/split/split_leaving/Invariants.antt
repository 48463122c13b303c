use Rattle.std.proofs.Common.{take}
use Rattle.std.specs.Prelude.{filter}
use Rattle.cube_diagram.specs.Functions.{Keeps}
use Rattle.incr_review.specs.Again.{leaves}
use Rattle.incr_review.specs.Split.{ArePieces, is_in, is_out}
use Rattle.incr_review.proofs.split.split_leaving.Given as goal

abbrev pub invariant-loop-region : goal.invariant-loop-region
invariant-loop-region l = record {
  outside : ArePieces l.fn.table (filter (leaves l.device) (take l.region-index l.regions)) (is_out l.fn.table l.set) l.table l.split.outside.items;
  inside : ArePieces l.fn.table (filter (leaves l.device) (take l.region-index l.regions)) (is_in l.fn.table l.set) l.table l.split.inside.items;
  kept : Keeps l.fn.table l.table;
}
