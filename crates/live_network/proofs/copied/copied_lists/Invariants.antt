use Rattle.std.proofs.Common.{◌≡◌, length, nat_eq}
use Rattle.indexmap.specs.IndexMap.{get}
use Rattle.cube_diagram.specs.Functions.{Keeps}
use Rattle.cube_diagram.specs.Images.{AreCopied}
use Rattle.live_network.specs.Copied.{HaveCopies}
use Rattle.live_network.proofs.CopyLemmas.{IsEarly}
use Rattle.live_network.proofs.copied.copied_lists.Given as goal

abbrev pub invariant-loop-i : goal.invariant-loop-i
invariant-loop-i l = record {
  copies : HaveCopies l.source l.into.table l.lists l.all.items (IsEarly l.used.keys l.i);
  long : length l.all.items ≡ l.i;
  known : AreCopied l.source l.into.table (get nat_eq l.into.known);
  kept : Keeps l.fn.into.table l.into.table;
}
