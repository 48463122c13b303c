use Rattle.std.proofs.Common.{ℕ, ◌<◌, ◌-◌}
use Rattle.cube_diagram.specs.Functions.{Functions, Keeps, count_of}
use Rattle.net_types.specs.declared.network.Place.{Place}
use Rattle.net_view.specs.Borrowed.{world_of}
use Rattle.set_walk.specs.Sets.{InSet, IsSetOf}
use Rattle.loop_search.specs.Looping.{AreLevels, LoopsFrom}
use Rattle.loop_search.proofs.search.looping_in.Given as goal

abbrev pub invariant-loop-room : goal.invariant-loop-room
invariant-loop-room l = record {
  kept : Keeps l.fn.table l.table;
  since : Keeps l.initial.table l.table;
  below : l.found < count_of l.table;
  exact : (start : Functions) (domain : ℕ) (p : Place) → AreLevels (world_of l.net.world) start domain p l.fn.table l.levels → IsSetOf l.table l.found (λ h. InSet start domain h × LoopsFrom (world_of l.net.world) l.ttl p (l.ttl - l.room) h);
}
