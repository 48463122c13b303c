use Rattle.std.proofs.Common.{◌≤◌, ◌<◌}
use Rattle.cube_diagram.specs.Functions.{Keeps, count_of}
use Rattle.net_types.specs.Walks.{state_at}
use Rattle.net_view.specs.Borrowed.{world_of}
use Rattle.set_walk.specs.Levels.{IsLevel}
use Rattle.set_walk.specs.Sets.{InSet, IsSetOf}
use Rattle.loop_search.specs.Looping.{Returns}
use Rattle.loop_search.proofs.search.returning.Given as goal

abbrev pub invariant-loop-n : goal.invariant-loop-n
invariant-loop-n l = record {
  kept : Keeps l.fn.table l.table;
  below : l.found < count_of l.table;
  level : IsLevel (world_of l.net.world) l.fn.table l.fn.domain l.fn.place l.n l.table l.groups.items;
  before : l.mark.moves ≤ l.n;
  mark : IsLevel (world_of l.net.world) l.fn.table l.fn.domain l.fn.place l.mark.moves l.table l.mark.groups.items;
  exact : IsSetOf l.table l.found (λ h. InSet l.fn.table l.fn.domain h × Returns (world_of l.net.world) l.n (state_at l.fn.place h));
}
