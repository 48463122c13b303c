use Rattle.std.proofs.Common.{take}
use Rattle.std.specs.List.{AllZip}
use Rattle.cube_diagram.specs.Functions.{Keeps}
use Rattle.net_types.specs.Report.{IsSection}
use Rattle.net_view.specs.Borrowed.{world_of}
use Rattle.net_compare.proofs.alone.sections_in.Given as goal

abbrev pub invariant-loop-place : goal.invariant-loop-place
invariant-loop-place l = record {
  kept : Keeps l.fn.table l.table;
  sections : AllZip (IsSection (world_of l.compared.old.now.world) (world_of l.compared.new.now.world) l.compared.ttl) (take l.place-index l.compared.ingress.now) l.sections.items;
}
