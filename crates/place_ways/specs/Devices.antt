-- The ways of the places of one device that is compiled by itself.
use Rattle.std.specs.Prelude.{ℕ, ◌≡◌, ◌<◌, List, Option, Some, None, Contains}
use Rattle.hdr_bits.specs.declared.header.Header.{Header}
use Rattle.hdr_bits.specs.HeaderBits.{IsHeader}
use Rattle.cube_diagram.specs.Functions.{Functions, count_of}
use Rattle.net_types.specs.declared.network.NetDevice.{NetDevice}
use Rattle.net_types.specs.declared.network.Place.{Place}
use Rattle.net_types.specs.Moves.{coming_in}
use Rattle.net_types.specs.World.{World, Seat, seat_numbered}
use Rattle.net_forms.specs.Forms.{IsDeviceForm, IsFormOfSeat}
use Rattle.net_view.specs.Borrowed.{seat_of}
use Rattle.set_walk.specs.declared.net.PlaceWays.{PlaceWays}
use Rattle.set_walk.specs.Sets.{InSet}
use Rattle.place_ways.specs.declared.device_ways.WiredDevice.{WiredDevice}
use Rattle.place_ways.specs.declared.seat.WaySeat.{WaySeat}
use Rattle.place_ways.specs.Places.{HasSeatWays, IsPut}

-- the device is compiled in the table, and a header of the scope, a set of the table, is one still once it came in at one of its
-- interfaces
pub record IsWiredDevice (fs : Functions) (x : WiredDevice) : Type 0 where
  pub form : IsDeviceForm fs x.fates.now x.device.now x.form.now
  pub scope : x.scope < count_of fs
  pub comes : (seat : Seat) (h : Header) → seat.device ≡ x.device.now → IsHeader h → InSet fs x.scope h → InSet fs x.scope (coming_in seat h)

abbrev pub place_of : NetDevice → ℕ → Place
place_of d n = record { device = d.name; interface = n }

-- the interface has its ways at this position, if it is one
pub record HasSeatPosition (w : World) (fs : Functions) (scope : ℕ) (lists : List PlaceWays) (seat : Seat) (at : Option ℕ) : Type 0 where
  pub position : ℕ
  pub is : at ≡ Some position
  pub ways : HasSeatWays w fs scope lists seat position

-- the interface has the position of its ways, and where there is none it has no position
abbrev pub IsSeatPosition : World → Functions → ℕ → List PlaceWays → Option Seat → Option ℕ → Type 0
IsSeatPosition w fs scope lists None at = at ≡ None
IsSeatPosition w fs scope lists (Some seat) at = HasSeatPosition w fs scope lists seat at

-- the place of the device's interface of this number, if there is one, is given the position of its ways
pub record PutsSeat (w : World) (fs : Functions) (scope : ℕ) (lists : List PlaceWays) (d : NetDevice) (n : ℕ) (old new : Place → Option ℕ) : Type 0 where
  pub at : Option ℕ
  pub is : IsSeatPosition w fs scope lists (seat_numbered d n) at
  pub put : IsPut (place_of d n) at old new

-- for each number of which the device has an interface, its ways over the links of this world stand at the position of its place
abbrev pub HaveSeatPositions : World → Functions → ℕ → List PlaceWays → NetDevice → (ℕ → Type 0) → (Place → Option ℕ) → Type 0
HaveSeatPositions w fs scope lists d P at = (n : ℕ) (seat : Seat) → P n → seat_numbered d n ≡ Some seat → HasSeatPosition w fs scope lists seat (at (place_of d n))

-- a place that is none of an interface of the device has the position that it had
abbrev pub KeepsOthers : NetDevice → (Place → Option ℕ) → (Place → Option ℕ) → Type 0
KeepsOthers d old new = (p : Place) → ((n : ℕ) (seat : Seat) → p ≡ place_of d n → seat_numbered d n ≡ Some seat → ⊥) → new p ≡ old p

-- the places of the device's interfaces have their ways, and all others what they had
pub record PutsDevice (w : World) (fs : Functions) (scope : ℕ) (lists : List PlaceWays) (d : NetDevice) (old new : Place → Option ℕ) : Type 0 where
  pub seats : (n : ℕ) (seat : Seat) → seat_numbered d n ≡ Some seat → HasSeatPosition w fs scope lists seat (new (place_of d n))
  pub others : KeepsOthers d old new

-- what is known of an interface of the device
pub record IsSeatIn (x : WiredDevice) (s : WaySeat) : Type 0 where
  pub device : s.seat.device.now ≡ x.device.now
  pub form : s.device.now ≡ x.form.now
  pub formed : IsFormOfSeat x.device.now x.form.now (seat_of s.seat) s.form
  pub fates : s.fates.now ≡ x.fates.now
  pub wiring : s.wiring.now ≡ x.wiring.now
  pub scope : s.scope ≡ x.scope
