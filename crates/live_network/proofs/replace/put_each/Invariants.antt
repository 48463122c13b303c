use Rattle.std.proofs.Common.{take}
use Rattle.indexmap.specs.IndexMap.{get}
use Rattle.net_types.specs.World.{same_place}
use Rattle.net_view.specs.Borrowed.{world_of}
use Rattle.live_network.specs.Live.{IsRenewed}
use Rattle.live_network.specs.Putting.{PutsNamed}
use Rattle.live_network.proofs.replace.put_each.Given as goal

abbrev pub invariant-loop-name : goal.invariant-loop-name
invariant-loop-name l = record {
  put : PutsNamed (world_of l.world) l.live.tables.diagrams l.fn.live.scope l.live.ways.lists.items (take l.name-index l.names) (get same_place l.fn.live.ways.positions) (get same_place l.live.ways.positions);
  renewed : IsRenewed l.fn.live l.live;
}
