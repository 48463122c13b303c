use Rattle.std.proofs.Common.{◌≤◌, ◌-◌}
use Rattle.cube_diagram.specs.Functions.{Keeps}
use Rattle.net_view.specs.Borrowed.{world_of}
use Rattle.set_walk.specs.Levels.{IsLevel, LeadInto}
use Rattle.set_walk.specs.Outcomes.{AreEndsOf, AreOnce}
use Rattle.set_walk.specs.Visits.{AreVisitors, StandApart}
use Rattle.set_walk.proofs.visit_walk.labels_and_visitors.Given as goal

abbrev pub invariant-loop-n : goal.invariant-loop-n
invariant-loop-n l = record {
  kept : Keeps l.fn.table l.table;
  level : IsLevel (world_of l.net.world) l.fn.table l.fn.domain l.fn.place l.n l.table l.groups.items;
  room : l.n ≤ l.fn.ttl;
  before : l.mark.moves ≤ l.n;
  mark : IsLevel (world_of l.net.world) l.fn.table l.fn.domain l.fn.place l.mark.moves l.table l.mark.groups.items;
  within : LeadInto l.table l.net.scope l.groups.items;
  ends : AreEndsOf (world_of l.net.world) l.fn.table l.fn.domain l.fn.place l.fn.ttl l.n l.table l.ends.items;
  once : AreOnce l.ends.items;
  visitors : AreVisitors (world_of l.net.world) l.fn.table l.fn.domain l.fn.place l.n l.table l.visitors.items;
  apart : StandApart l.visitors.items;
}

abbrev pub decreases-loop-n : goal.decreases-loop-n
decreases-loop-n l = l.fn.ttl - l.n
