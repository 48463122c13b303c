use Rattle.net_forms.specs.Worlds.{world_in}
use Rattle.region_walk.specs.Visits.{AreVisited, AreDone, AreStates, AreFresh}
use Rattle.region_walk.proofs.walk.walk.Given as goal

abbrev pub invariant-loop-n : goal.invariant-loop-n
invariant-loop-n l = record {
  visited : AreVisited (world_in l.prepared l.version) l.cube l.first l.spots.keys l.visits.items;
  done : AreDone (world_in l.prepared l.version) l.cube l.first l.fn.place l._n l.visits.items l.levels.items;
  states : AreStates (world_in l.prepared l.version) l.cube l.first l.fn.place l._n l.spots.keys l.states.items;
  fresh : AreFresh l.visits.items l.spots.keys l.states.items;
}
