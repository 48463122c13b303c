-- What the walks of all headers of a region meet at each number of moves.
use Rattle.std.specs.Prelude.{◌≡◌, ℕ, zero, suc, ◌+◌, ◌<◌, ◌≤◌, Bool, ◌==◌, List, [], ◌∷◌, ◌++◌, Some, map, flat_map, filter_map, length, slice_get, Contains}
use Rattle.std.specs.List.{AllByRecursion}
use Rattle.hdr_bits.specs.declared.header.Header.{Header}
use Rattle.hdr_bits.specs.declared.cube.Cube.{Cube}
use Rattle.hdr_bits.specs.HeaderBits.{number, IsHeader}
use Rattle.hdr_bits.specs.CubeBits.{IsIn}
use Rattle.net_types.specs.declared.label.Outcome.{Outcome}
use Rattle.net_types.specs.declared.network.Place.{Place}
use Rattle.net_types.specs.World.{World}
use Rattle.net_types.specs.Moves.{moves}
use Rattle.net_types.specs.Walks.{states_after, state_at}
use Rattle.cube_alg.specs.Stamps.{applied}
use Rattle.transfer_rel.specs.CubeMoves.{SameSet, move_of, OfStamp, IsStamp}
use Rattle.region_walk.specs.declared.spot.Spot.{Spot}
use Rattle.region_walk.specs.declared.visit.Visit.{Visit}
use Rattle.region_walk.specs.declared.level.Level.{Level}
use Rattle.region_walk.specs.Lists.{items_at, AreNumbersOf, AreOnce}
use Rattle.region_walk.specs.Spots.{stamp_of, state_of, StampFits, IsBase, IsSpot, next_spot, outcome_of_move}

-- the visit tells the moves of this header, from the start of its walk
pub record Serves (w : World) (g h : Header) (v : Visit) : Type 0 where
  pub moves : SameSet (moves w v.spot.place (applied (stamp_of v.spot) h)) (map (move_of h) v.moves)
  pub stamps : AllByRecursion (OfStamp (StampFits g h)) v.moves

pub record IsVisit (w : World) (c : Cube) (g : Header) (v : Visit) : Type 0 where
  pub serves : (h : Header) → IsHeader h → IsIn c (number h) → Serves w g h v
  pub fits : AllByRecursion (OfStamp IsStamp) v.moves

abbrev pub spot_of : Visit → Spot
spot_of v = v.spot

-- where a visit goes on to
abbrev pub next_spots : Visit → List Spot
next_spots v = filter_map next_spot v.moves

abbrev pub next_numbers : Visit → List ℕ
next_numbers v = v.next

-- the walks of n moves of each header of the region lead to these spots
pub record AreAfter (w : World) (c : Cube) (g : Header) (p : Place) (n : ℕ) (spots : List Spot) : Type 0 where
  pub states : (h : Header) → IsHeader h → IsIn c (number h) → SameSet (states_after w n (state_at p h)) (map (state_of h) spots)

pub record IsLevel (w : World) (c : Cube) (g : Header) (p : Place) (n : ℕ) (visits : List Visit) : Type 0 where
  pub after : AreAfter w c g p n (map spot_of visits)
  pub each : AllByRecursion (IsVisit w c g) visits

-- for each number of moves below the limit, the visits there
pub record AreLevels (w : World) (c : Cube) (g : Header) (p : Place) (limit : ℕ) (visits : ℕ → List Visit) : Type 0 where
  pub each : (n : ℕ) → n < limit → IsLevel w c g p n (visits n)

-- the numbers of the visits at a level; none past the last one
abbrev pub states_at : List Level → ℕ → List ℕ
states_at [] n = []
states_at (l ∷ levels) zero = l.states
states_at (l ∷ levels) (suc n) = states_at levels n

abbrev pub visits_at : List Visit → List Level → ℕ → List Visit
visits_at visits levels n = items_at visits (states_at levels n)

-- each visit stands at the number of its spot, and leads to numbers of spots
pub record IsNumbered (spots : List Spot) (visits : List Visit) : Type 0 where
  pub at : (i : ℕ) (v : Visit) → slice_get visits i ≡ Some v → slice_get spots i ≡ Some v.spot
  pub next : AllByRecursion (λ v. AreNumbersOf spots v.next (next_spots v)) visits

-- the spots and visits so far
pub record AreVisited (w : World) (c : Cube) (g : Header) (spots : List Spot) (visits : List Visit) : Type 0 where
  pub found : AllByRecursion (IsSpot c g) spots
  pub once : AreOnce spots
  pub each : AllByRecursion (IsVisit w c g) visits
  pub numbered : IsNumbered spots visits

-- all visits of the levels are there
abbrev pub AreThere : List Visit → List Level → Type 0
AreThere visits levels = AllByRecursion (λ (l : Level). AllByRecursion (λ (i : ℕ). i < length visits) l.states) levels

-- the walks of at most 254 moves of all headers of the region
pub record IsGraph (w : World) (c : Cube) (p : Place) (visits : List Visit) (levels : List Level) : Type 0 where
  pub base : Header
  pub based : IsBase c base
  pub all : AreLevels w c base p 255 (visits_at visits levels)
  pub spots : List Spot
  pub visited : AreVisited w c base spots visits
  pub there : AreThere visits levels

-- ---- outcomes

abbrev pub visit_outcomes : Bool → Visit → List Outcome
visit_outcomes last v = filter_map (outcome_of_move last) v.moves

-- the outcomes of the walks of fewer than n moves under the TTL t
abbrev pub outcomes_below : ℕ → (ℕ → List Visit) → ℕ → List Outcome
outcomes_below t visits zero = []
outcomes_below t visits (suc n) = outcomes_below t visits n ++ flat_map (visit_outcomes (n + 1 == t)) (visits n)

-- the numbers of all visits below a level
abbrev pub states_below : List Level → ℕ → List ℕ
states_below levels zero = []
states_below levels (suc n) = states_below levels n ++ states_at levels n

-- ---- while the graph grows

-- the levels below n, whose visits are there already
pub record AreDone (w : World) (c : Cube) (g : Header) (p : Place) (n : ℕ) (visits : List Visit) (levels : List Level) : Type 0 where
  pub count : length levels ≡ n
  pub right : AreLevels w c g p n (visits_at visits levels)
  pub there : AreThere visits levels

-- the numbers of the spots that the walks of n moves lead to
pub record AreStates (w : World) (c : Cube) (g : Header) (p : Place) (n : ℕ) (spots : List Spot) (states : List ℕ) : Type 0 where
  pub after : AreAfter w c g p n (items_at spots states)
  pub there : AllByRecursion (λ (i : ℕ). i < length spots) states

-- the spots that have no visit yet are all among those with these numbers
abbrev pub AreFresh : List Visit → List Spot → List ℕ → Type 0
AreFresh visits spots states = (i : ℕ) → length visits ≤ i → i < length spots → Contains states i
