use Rattle.std.proofs.Common.{◌≡◌, ◌≤◌, ◌<◌, ℕ, length}
use Rattle.net_forms.specs.Worlds.{world_in}
use Rattle.hdr_bits.specs.Lists.{Extends}
use Rattle.region_walk.specs.Visits.{AreVisited}
use Rattle.region_walk.specs.Seen.{FollowsVisit}
use Rattle.region_walk.proofs.walk.visit_new.Given as goal

abbrev pub invariant-loop-number : goal.invariant-loop-number
invariant-loop-number l = record {
  count : length l.visits.items ≡ l._number;
  right : AreVisited (world_in l.prepared l.version) l.cube l.first l.spots.keys l.visits.items;
  spots : Extends l.initial.spots.keys l.spots.keys;
  added : (i : ℕ) → length l.initial.spots.keys ≤ i → i < length l.spots.keys → FollowsVisit (length l.initial.visits.items) (length l.initial.spots.keys) l.visits.items i;
  visits : Extends l.initial.visits.items l.visits.items;
}
