use Rattle.std.proofs.Common.{◌<◌, ◌⊎◌, take}
use Rattle.cube_diagram.specs.Functions.{Keeps, count_of}
use Rattle.net_view.specs.Borrowed.{world_of}
use Rattle.set_walk.specs.Sets.{InSet, IsSetOf}
use Rattle.loop_search.specs.Looping.{ByWay, IsBack}
use Rattle.loop_search.proofs.search.with_returning_from.Given as goal

abbrev pub invariant-loop-group : goal.invariant-loop-group
invariant-loop-group l = record {
  kept : Keeps l.fn.table l.table;
  below : l.found < count_of l.table;
  exact : IsSetOf l.table l.found (λ h. InSet l.fn.table l.fn.search.found h ⊎ ByWay l.fn.table (take l.group-index l.groups) (λ m g. InSet l.fn.table l.fn.search.lasting g × IsBack (world_of l.net.world) l.fn.room m g) h);
}
