use Rattle.std.proofs.Common.{ℕ, ◌≡◌, ◌≤◌, ◌-◌, length}
use Rattle.cube_diagram.specs.Functions.{Functions}
use Rattle.net_types.specs.declared.network.Place.{Place}
use Rattle.net_types.specs.World.{World}
use Rattle.set_walk.specs.Circles.{AllSame}
use Rattle.loop_search.specs.Looping.{AreLevels}
use Rattle.loop_search.proofs.search.with_rounds.Given as goal

abbrev pub invariant-loop-n : goal.invariant-loop-n
invariant-loop-n l = record {
  count : length l.all.items ≡ l.n;
  before : length l.fn.levels.items ≤ l.n;
  levels : (w : World) (start fs : Functions) (domain : ℕ) (p : Place) → AreLevels w start domain p fs l.fn.levels.items → AllSame w start domain p (length l.fn.levels.items - l.round) (length l.fn.levels.items) → AreLevels w start domain p fs l.all.items;
}
