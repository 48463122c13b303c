use Rattle.std.proofs.Common.{nat_eq, take}
use Rattle.indexmap.specs.IndexMap.{get}
use Rattle.cube_diagram.specs.Functions.{Keeps}
use Rattle.cube_diagram.specs.Images.{AreCopied}
use Rattle.live_network.specs.Copied.{AreWayCopies}
use Rattle.live_network.proofs.copied.copied_ways.Given as goal

abbrev pub invariant-loop-way : goal.invariant-loop-way
invariant-loop-way l = record {
  copies : AreWayCopies l.source l.into.table (take l.way-index l.ways) l.all.items;
  known : AreCopied l.source l.into.table (get nat_eq l.into.known);
  kept : Keeps l.fn.into.table l.into.table;
}
