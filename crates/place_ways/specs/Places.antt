-- The ways of the places of networks, in lists that places share.
use Rattle.std.specs.Prelude.{ℕ, ◌≡◌, ◌<◌, ◌⊎◌, ◌↔◌, Bool, true, false, List, Option, Some, None, IfSome, Contains, find, slice_get, option_and_then, ◌==◌}
use Rattle.hdr_bits.specs.declared.header.Header.{Header}
use Rattle.hdr_bits.specs.HeaderBits.{IsHeader}
use Rattle.cube_diagram.specs.Functions.{Functions, count_of}
use Rattle.net_types.specs.declared.network.Move.{Move}
use Rattle.net_types.specs.declared.network.Move.TheVariants.{Drop}
use Rattle.net_types.specs.declared.network.NetDevice.{NetDevice}
use Rattle.net_types.specs.declared.network.Place.{Place}
use Rattle.net_types.specs.Moves.{is_inside, moves, moves_at, moves_in}
use Rattle.net_types.specs.World.{World, Seat, same_place}
use Rattle.set_walk.specs.declared.net.PlaceWays.{PlaceWays}
use Rattle.set_walk.specs.Nets.{AreWays}
use Rattle.set_walk.specs.Scopes.{IsKept, IsKeptIn}
use Rattle.set_walk.specs.Ways.{AreWaysAt}
use Rattle.net_forms.specs.Networks.{IsNetworkForm}
use Rattle.net_view.specs.Borrowed.{world_of}
use Rattle.place_ways.specs.declared.base.Bases.{Bases}
use Rattle.place_ways.specs.declared.seat.ScopedNetwork.{ScopedNetwork}
use Rattle.place_ways.specs.Adding.{AreGiven, HasMoves}

-- each place of the network has its ways for the headers of the scope, at its position in the lists
abbrev pub ArePlaceWays : World → Functions → ℕ → List PlaceWays → (Place → Option ℕ) → Type 0
ArePlaceWays w fs scope lists position = AreWays w fs scope (λ p. option_and_then (slice_get lists) (position p))

-- the scope is a set of the table, and a header of it that comes in at a place, or goes on to one, is one still
pub record IsScopeOf (w : World) (fs : Functions) (scope : ℕ) : Type 0 where
  pub below : scope < count_of fs
  pub kept : IsKept w fs scope
  pub comes : IsKeptIn w fs scope

-- the network is compiled in the table, and the scope is one of it
pub record IsScopedNetwork (fs : Functions) (n : ScopedNetwork) : Type 0 where
  pub form : IsNetworkForm fs n.fates.now n.form.now
  pub scope : IsScopeOf (world_of n.form.now.world) fs n.scope

-- ---- how they are found, place by place

-- everything that arrives there is dropped
abbrev pub DropsAll : World → Place → Type 0
DropsAll w p = (h : Header) → IsHeader h → (m : Move) → Contains (moves w p h) m ↔ (Drop ≡ m)

-- the ways of the place stand at this position
pub record HasWays (w : World) (fs : Functions) (scope : ℕ) (lists : List PlaceWays) (p : Place) (position : ℕ) : Type 0 where
  pub ways : PlaceWays
  pub there : slice_get lists position ≡ Some ways
  pub right : AreWaysAt w p fs scope ways.ways.items

-- so they do, or it has no position and drops everything
abbrev pub IsPosition : World → Functions → ℕ → List PlaceWays → Place → Option ℕ → Type 0
IsPosition w fs scope lists p None = DropsAll w p
IsPosition w fs scope lists p (Some position) = HasWays w fs scope lists p position

abbrev pub ArePositions : World → Functions → ℕ → List PlaceWays → (Place → Option ℕ) → Type 0
ArePositions w fs scope lists position = (p : Place) → IsPosition w fs scope lists p (position p)

-- the places of devices with these names have the positions that they have here
abbrev pub AreTaken : World → Functions → ℕ → List PlaceWays → List ℕ → (Place → Option ℕ) → Type 0
AreTaken w fs scope lists names position = (p : Place) → Contains names p.device → IsPosition w fs scope lists p (position p)

-- each position that there is already is right
abbrev pub AreRight : World → Functions → ℕ → List PlaceWays → (Place → Option ℕ) → Type 0
AreRight w fs scope lists position = (p : Place) → IfSome (position p) (HasWays w fs scope lists p)

-- of these places, those without a position drop everything
abbrev pub AreDone : World → (Place → Option ℕ) → (Place → Type 0) → Type 0
AreDone w position P = (p : Place) → P p → position p ≡ None → DropsAll w p

-- a place that had a position has one
abbrev pub LosesNone : (Place → Option ℕ) → (Place → Option ℕ) → Type 0
LosesNone old new = (p : Place) → new p ≡ None → old p ≡ None

-- the place is one of the device of this name, with one of these numbers
abbrev pub IsNumbered : ℕ → List ℕ → Place → Type 0
IsNumbered name numbers p = (p.device ≡ name) × Contains numbers p.interface

-- the place is one of one of these devices
pub record IsPlaceIn (devices : List NetDevice) (p : Place) : Type 0 where
  pub device : NetDevice
  pub among : Contains devices device
  pub named : device.name ≡ p.device
  pub numbered : Contains device.numbers p.interface

-- ---- ways of headers that came in

-- at this position stand the ways of headers that came in at an interface of the device: at any that is inside, or at any
-- that isn't
pub record IsBase (w : World) (fs : Functions) (scope : ℕ) (lists : List PlaceWays) (d : NetDevice) (inside : Bool) (position : ℕ) : Type 0 where
  pub ways : PlaceWays
  pub there : slice_get lists position ≡ Some ways
  pub given : AreGiven fs ways.ways.items
  pub moves : (seat : Seat) → seat.device ≡ d → is_inside seat.interface.side ≡ inside → HasMoves (moves_in w seat) fs scope ways.ways.items

abbrev pub base_of : Bases → Bool → Option ℕ
base_of b true = b.inside
base_of b false = b.other

abbrev pub with_base : Bases → Bool → ℕ → Bases
with_base b true position = record { inside = Some position; other = b.other }
with_base b false position = record { inside = b.inside; other = Some position }

abbrev pub AreBases : World → Functions → ℕ → List PlaceWays → NetDevice → Bases → Type 0
AreBases w fs scope lists d b = (inside : Bool) → IfSome (base_of b inside) (IsBase w fs scope lists d inside)

-- so they do for the device of this name, if there is one
abbrev pub AreBasesOf : World → Functions → ℕ → List PlaceWays → ℕ → Bases → Type 0
AreBasesOf w fs scope lists name b = (d : NetDevice) → Some d ≡ find (λ x. x.name == name) w.network.devices → AreBases w fs scope lists d b

-- the ways of all headers that arrive at the interface stand at this position
pub record HasSeatWays (w : World) (fs : Functions) (scope : ℕ) (lists : List PlaceWays) (seat : Seat) (position : ℕ) : Type 0 where
  pub ways : PlaceWays
  pub there : slice_get lists position ≡ Some ways
  pub given : AreGiven fs ways.ways.items
  pub moves : HasMoves (moves_at w (Some seat)) fs scope ways.ways.items

-- ---- positions in a map

abbrev pub put_position : Bool → Option ℕ → Option ℕ → Option ℕ
put_position false o before = before
put_position true None before = before
put_position true (Some position) before = Some position

-- the place has this position, if it is one, and any other keeps its own
abbrev pub IsPut : Place → Option ℕ → (Place → Option ℕ) → (Place → Option ℕ) → Type 0
IsPut q o old new = (p : Place) → new p ≡ put_position (same_place q p) o (old p)

-- of these places each has the position that it has here, if it has one
pub record TakesPositions (name : ℕ) (numbers : List ℕ) (known old new : Place → Option ℕ) : Type 0 where
  pub from : (p : Place) (i : ℕ) → new p ≡ Some i → (old p ≡ Some i) ⊎ ((p.device ≡ name) × (known p ≡ Some i))
  pub done : (p : Place) → IsNumbered name numbers p → new p ≡ None → known p ≡ None
  pub kept : LosesNone old new
