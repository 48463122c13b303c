-- Devices whose ways are put, by their names.
use Rattle.std.specs.Prelude.{ℕ, ◌≡◌, List, Option, Some, None, Contains}
use Rattle.cube_diagram.specs.Functions.{Functions}
use Rattle.net_types.specs.declared.network.NetDevice.{NetDevice}
use Rattle.net_types.specs.declared.network.Place.{Place}
use Rattle.net_types.specs.World.{World, Seat, seat_at}
use Rattle.place_ways.specs.Devices.{PutsDevice}
use Rattle.place_ways.specs.Places.{IsPosition}
use Rattle.set_walk.specs.declared.net.PlaceWays.{PlaceWays}

-- the ways of the device are put, if there is one
abbrev pub PutsFound : World → Functions → ℕ → List PlaceWays → Option NetDevice → (Place → Option ℕ) → (Place → Option ℕ) → Type 0
PutsFound w fs scope lists None old new = (p : Place) → new p ≡ old p
PutsFound w fs scope lists (Some d) old new = PutsDevice w fs scope lists d old new

-- the place is one of an interface of a device of one of these names
pub record IsSeatAmong (w : World) (names : List ℕ) (p : Place) : Type 0 where
  pub named : Contains names p.device
  pub seat : Seat
  pub there : seat_at w p ≡ Some seat

-- such places have their ways, and all others the positions that they had
pub record PutsNamed (w : World) (fs : Functions) (scope : ℕ) (lists : List PlaceWays) (names : List ℕ) (old new : Place → Option ℕ) : Type 0 where
  pub own : (p : Place) → IsSeatAmong w names p → IsPosition w fs scope lists p (new p)
  pub others : (p : Place) → (IsSeatAmong w names p → ⊥) → new p ≡ old p
