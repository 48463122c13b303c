use Rattle.std.proofs.Common.{◌≡◌, ◌<◌, ◌⊎◌, take}
use Rattle.cube_diagram.specs.Functions.{Keeps, count_of}
use Rattle.set_walk.specs.Sets.{InSet, IsSetOf}
use Rattle.loop_search.specs.Looping.{ByWay, unchanged_at}
use Rattle.loop_search.proofs.search.with_unchanged.Given as goal

abbrev pub invariant-loop-group : goal.invariant-loop-group
invariant-loop-group l = record {
  kept : Keeps l.fn.table l.table;
  below : l.all < count_of l.table;
  exact : IsSetOf l.table l.all (λ h. InSet l.fn.table l.fn.set h ⊎ ByWay l.fn.table (take l.group-index l.groups) (λ m _. m ≡ unchanged_at l.fn.place) h);
}
