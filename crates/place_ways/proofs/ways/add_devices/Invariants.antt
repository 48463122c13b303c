use Rattle.std.proofs.Common.{take}
use Rattle.hdr_bits.specs.Lists.{Extends}
use Rattle.indexmap.specs.IndexMap.{get}
use Rattle.cube_diagram.specs.Functions.{Keeps}
use Rattle.net_types.specs.World.{same_place}
use Rattle.net_view.specs.Borrowed.{world_of}
use Rattle.place_ways.specs.Places.{AreDone, AreRight, IsPlaceIn}
use Rattle.place_ways.proofs.ways.add_devices.Given as goal

abbrev pub invariant-loop-device : goal.invariant-loop-device
invariant-loop-device l = record {
  kept : Keeps l.fn.table l.table;
  lists : Extends l.fn.ways.lists.items l.ways.lists.items;
  right : AreRight (world_of l.network.form.now.world) l.table l.network.scope l.ways.lists.items (get same_place l.ways.positions);
  done : AreDone (world_of l.network.form.now.world) (get same_place l.ways.positions) (IsPlaceIn (take l.device-index l.devices));
}
