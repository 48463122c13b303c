use Rattle.std.proofs.Common.{◌<◌, take}
use Rattle.hdr_bits.specs.declared.header.Header.{Header}
use Rattle.hdr_bits.specs.HeaderBits.{IsHeader}
use Rattle.cube_diagram.specs.Functions.{Keeps, count_of}
use Rattle.net_view.specs.Borrowed.{world_of}
use Rattle.set_walk.specs.Sets.{InSet}
use Rattle.loop_search.specs.Bounds.{AreBounds, EntersLoop}
use Rattle.loop_search.specs.Looping.{ByWay, LeadsTo}
use Rattle.loop_search.proofs.bounds.staying.Given as goal

abbrev pub invariant-loop-way : goal.invariant-loop-way
invariant-loop-way l = record {
  kept : Keeps l.fn.table l.table;
  below : l.stay < count_of l.table;
  stay : AreBounds l.fn.table l.net l.bounds → (h : Header) → IsHeader h → ByWay l.fn.table (take l.way-index l.ways) (LeadsTo (EntersLoop (world_of l.net.world))) h → InSet l.table l.stay h;
}
