-- What one look at a spot, at all new spots or at a whole region gives.
use Rattle.std.specs.Prelude.{◌≡◌, ◌≤◌, ◌<◌, ℕ, List, Some, length, slice_get, Contains}
use Rattle.hdr_bits.specs.declared.header.Header.{Header}
use Rattle.hdr_bits.specs.declared.cube.Cube.{Cube}
use Rattle.cube_alg.specs.declared.on_cube.OnCube.{OnCube}
use Rattle.cube_alg.specs.declared.on_cube.OnCube.TheVariants as answer
use Rattle.cube_alg.specs.OnCubes.{IsOpen}
use Rattle.net_types.specs.declared.network.Place.{Place}
use Rattle.net_types.specs.World.{World}
use Rattle.region_walk.specs.declared.spot.Spot.{Spot}
use Rattle.region_walk.specs.declared.visit.Visit.{Visit}
use Rattle.region_walk.specs.declared.walk.Sweep.{Sweep}
use Rattle.region_walk.specs.declared.walk.Sweep.TheVariants as sweep
use Rattle.region_walk.specs.declared.walk.Walked.{Walked}
use Rattle.region_walk.specs.Lists.{AddsFrom, AreNumbersOf}
use Rattle.region_walk.specs.Spots.{stamp_of}
use Rattle.region_walk.specs.Visits.{IsVisit, next_spots, AreVisited, IsGraph}
use Rattle.region_walk.specs.Divisions.{HasOtherEntriesAfter, DividesOnTheWay}

-- a visit of the spot, whose next spots have numbers; no other spots were added
pub record IsVisitOf (w : World) (c : Cube) (g : Header) (spot : Spot) (before spots : List Spot) (v : Visit) : Type 0 where
  pub same : v.spot ≡ spot
  pub right : IsVisit w c g v
  pub numbers : AreNumbersOf spots v.next (next_spots v)
  pub adds : AddsFrom (next_spots v) before spots

abbrev pub OfSeen : World → Cube → Header → Spot → List Spot → List Spot → OnCube Visit → Type 0
OfSeen w c g spot before spots (answer.All v) = IsVisitOf w c g spot before spots v
OfSeen w c g spot before spots (answer.Divides k) = IsOpen c k × HasOtherEntriesAfter w spot.place (stamp_of spot) c

-- the spot with this number follows a visit whose number is one of those from the first one to before the second
pub record FollowsVisit (from past : ℕ) (visits : List Visit) (number : ℕ) : Type 0 where
  pub position : ℕ
  pub behind : from ≤ position
  pub before : position < past
  pub visit : Visit
  pub stands : slice_get visits position ≡ Some visit
  pub next : Contains visit.next number

-- after the first visits, as many as were seen, all spots that were there before have a visit, and the spots that were added
-- follow these
pub record AllVisited (w : World) (c : Cube) (g : Header) (seen : ℕ) (before spots : List Spot) (visits : List Visit) : Type 0 where
  pub right : AreVisited w c g spots visits
  pub all : length before ≤ length visits
  pub added : (i : ℕ) → length before ≤ i → i < length spots → FollowsVisit seen (length before) visits i

-- at a spot behind the first ones, as many as were seen, two headers of the cube take different entries
pub record HasOtherEntriesAtNew (w : World) (c : Cube) (seen : ℕ) (spots : List Spot) : Type 0 where
  pub position : ℕ
  pub behind : seen ≤ position
  pub spot : Spot
  pub stands : slice_get spots position ≡ Some spot
  pub other : HasOtherEntriesAfter w spot.place (stamp_of spot) c

abbrev pub OfSweep : World → Cube → Header → List Visit → List Spot → List Spot → List Visit → Sweep → Type 0
OfSweep w c g seen before spots visits sweep.All = AllVisited w c g (length seen) before spots visits
OfSweep w c g seen before spots visits (sweep.Divides k) = IsOpen c k × HasOtherEntriesAtNew w c (length seen) before

abbrev pub OfWalked : World → Place → Cube → OnCube Walked → Type 0
OfWalked w p c (answer.All x) = IsGraph w c p x.visits.items x.levels.items
OfWalked w p c (answer.Divides k) = IsOpen c k × DividesOnTheWay w p c
