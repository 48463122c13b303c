use Rattle.std.proofs.Common.{take}
use Rattle.std.specs.Prelude.{Contains}
use Rattle.hdr_bits.specs.Lists.{Extends}
use Rattle.indexmap.specs.IndexMap.{get}
use Rattle.cube_diagram.specs.Functions.{Keeps}
use Rattle.net_types.specs.World.{same_place}
use Rattle.place_ways.specs.Devices.{HaveSeatPositions, KeepsOthers}
use Rattle.place_ways.specs.Places.{AreBases}
use Rattle.place_ways.proofs.device_ways.put_device.Given as goal

abbrev pub invariant-loop-number : goal.invariant-loop-number
invariant-loop-number l = record {
  kept : Keeps l.fn.table l.table;
  lists : Extends l.fn.ways.lists.items l.ways.lists.items;
  bases : AreBases l.at.wiring.now l.table l.at.scope l.ways.lists.items l.at.device.now l.bases;
  seats : HaveSeatPositions l.at.wiring.now l.table l.at.scope l.ways.lists.items l.at.device.now (Contains (take l.number-index l.at.device.now.numbers)) (get same_place l.ways.positions);
  others : KeepsOthers l.at.device.now (get same_place l.fn.ways.positions) (get same_place l.ways.positions);
}
