use Rattle.std.proofs.Common.{◌≡◌, ◌≤◌, length}
use Rattle.cube_diagram.specs.Functions.{Keeps}
use Rattle.net_view.specs.Borrowed.{world_of}
use Rattle.set_walk.specs.Levels.{IsLevel}
use Rattle.loop_search.specs.Looping.{AreLevels}
use Rattle.loop_search.proofs.search.levels_of.Given as goal

abbrev pub invariant-loop-n : goal.invariant-loop-n
invariant-loop-n l = record {
  kept : Keeps l.fn.table l.table;
  level : IsLevel (world_of l.net.world) l.fn.table l.fn.domain l.fn.place l.n l.table l.groups.items;
  levels : AreLevels (world_of l.net.world) l.fn.table l.fn.domain l.fn.place l.table l.levels.items;
  count : length l.levels.items ≡ l.n;
  mark : l.mark ≤ l.n;
}
