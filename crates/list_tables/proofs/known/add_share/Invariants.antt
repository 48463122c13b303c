use Rattle.std.proofs.Common.{nat_eq}
use Rattle.indexmap.specs.IndexMap.{get}
use Rattle.cube_diagram.specs.Images.{AreCopied}
use Rattle.list_tables.specs.declared.lists.BothDevices.{BothDevices}
use Rattle.list_tables.specs.Made.{AreKnown, IsMadeShare}
use Rattle.list_tables.proofs.known.add_share.Given as goal

abbrev pub invariant-loop-list : goal.invariant-loop-list
invariant-loop-list l = record {
  copied : AreCopied l.share.table l.known.tables.diagrams (get nat_eq l.copied);
  known : (both : BothDevices) → IsMadeShare both l.share → AreKnown both l.fn.known → AreKnown both l.known;
}
