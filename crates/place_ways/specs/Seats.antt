-- An interface of a compiled network, in a table of functions.
use Rattle.std.specs.Prelude.{ℕ, ◌≡◌, ◌<◌, List, Some, length, slice_get}
use Rattle.hdr_bits.specs.declared.header.Header.{Header}
use Rattle.hdr_bits.specs.HeaderBits.{IsHeader}
use Rattle.cube_diagram.specs.declared.value_sets.ValueSet.{ValueSet}
use Rattle.cube_diagram.specs.Combined.{if_both}
use Rattle.cube_diagram.specs.Functions.{Functions, count_of, value_at}
use Rattle.cube_diagram.specs.ValueSets.{AreValueSets}
use Rattle.net_types.specs.declared.network.NetDevice.{NetDevice}
use Rattle.net_types.specs.Moves.{coming_in, moves_in}
use Rattle.net_forms.specs.declared.forms.DeviceForm.{DeviceForm}
use Rattle.net_forms.specs.declared.forms.NetworkForm.{NetworkForm}
use Rattle.net_forms.specs.Forms.{IsDeviceForm, IsFormOfSeat, IsSeatForm}
use Rattle.net_forms.specs.Networks.{IsFormIn}
use Rattle.net_view.specs.Borrowed.{seat_of, world_of}
use Rattle.set_walk.specs.declared.step.Way.{Way}
use Rattle.set_walk.specs.Sets.{InSet}
use Rattle.place_ways.specs.declared.seat.WaySeat.{WaySeat}
use Rattle.place_ways.specs.Adding.{AreGiven, HasMoves}

-- the forms are those of the interface and of its device, and a header of the scope is of the scope once it came in there
pub record IsWaySeat (fs : Functions) (s : WaySeat) : Type 0 where
  pub device : IsDeviceForm fs s.fates.now s.seat.device.now s.device.now
  pub form : IsSeatForm fs s.seat.device.now.config s.seat.interface.now s.form
  pub scope : s.scope < count_of fs
  pub comes : (h : Header) → IsHeader h → InSet fs s.scope h → InSet fs s.scope (coming_in (seat_of s.seat) h)

-- the ways have the moves of the headers of the scope that came in at the interface
pub record AreWaysIn (fs : Functions) (s : WaySeat) (ways : List Way) : Type 0 where
  pub given : AreGiven fs ways
  pub moves : HasMoves (moves_in s.wiring.now (seat_of s.seat)) fs s.scope ways

-- each number of a fate of the device that headers of the scope have, with the set of these headers
abbrev pub AreFateSets : Functions → WaySeat → List ValueSet → Type 0
AreFateSets fs s sets = AreValueSets fs (λ h. if_both (value_at fs s.device.now.fates h) (value_at fs s.scope h)) sets

-- each device has as many forms of interfaces as interfaces
pub record AreCounted (n : NetworkForm) : Type 0 where
  pub each : (i : ℕ) (d : NetDevice) (f : DeviceForm) → slice_get n.world.network.now.devices i ≡ Some d → slice_get n.devices.items i ≡ Some f → length f.seats.items ≡ length d.config.interfaces

-- the network has this interface, and these are the forms that it has of it
pub record IsSeatOf (n : NetworkForm) (s : WaySeat) : Type 0 where
  pub device : IsFormIn n s.seat.device.now s.device.now
  pub form : IsFormOfSeat s.seat.device.now s.device.now (seat_of s.seat) s.form
  pub world : s.wiring.now ≡ world_of n.world
