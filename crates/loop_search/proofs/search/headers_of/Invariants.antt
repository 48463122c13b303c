use Rattle.std.proofs.Common.{◌<◌, ◌⊎◌, take}
use Rattle.cube_diagram.specs.Functions.{Keeps, count_of}
use Rattle.set_walk.specs.Sets.{InSet, IsSetOf}
use Rattle.loop_search.specs.Looping.{ByWay, GoesOn}
use Rattle.loop_search.proofs.search.headers_of.Given as goal

abbrev pub invariant-loop-group : goal.invariant-loop-group
invariant-loop-group l = record {
  kept : Keeps l.fn.table l.table;
  below : l.set < count_of l.table;
  exact : IsSetOf l.table l.set (λ h. InSet l.fn.table l.initial.set h ⊎ ByWay l.fn.table (take l.group-index l.groups) (λ m _. GoesOn m) h);
}
