-- What the compiled forms of a device stand for: its access lists, its translation rules and what it does with
-- destinations, as functions of a table of diagrams.
use Rattle.std.specs.Prelude.{ℕ, ◌≡◌, ◌<◌, ◌≤◌, List, Option, Some, find, length, option_and_then, slice_get}
use Rattle.hdr_bits.specs.declared.header.Header.{Header}
use Rattle.hdr_bits.specs.HeaderBits.{number, IsHeader}
use Rattle.cube_diagram.specs.Functions.{Functions, Keeps, count_of, value_at}
use Rattle.net_types.specs.declared.config.AccessList.{AccessList}
use Rattle.net_types.specs.declared.config.Config.{Config}
use Rattle.net_types.specs.declared.config.Interface.{Interface}
use Rattle.net_types.specs.declared.network.NetDevice.{NetDevice}
use Rattle.net_types.specs.AccessLists.{verdict, passes}
use Rattle.net_types.specs.Moves.{list_named}
use Rattle.net_types.specs.Routes.{same_text}
use Rattle.net_types.specs.World.{Seat}
use Rattle.acl_match.specs.Lists.{number_of}
use Rattle.device_fates.specs.declared.fate.Fate.{Fate}
use Rattle.hdr_bits.specs.Lists.{Extends}
use Rattle.device_fates.specs.Fates.{HasFate}
use Rattle.net_forms.specs.declared.forms.DeviceForm.{DeviceForm}
use Rattle.net_forms.specs.declared.forms.KnownList.{KnownList}
use Rattle.net_forms.specs.declared.forms.SeatForm.{SeatForm}
use Rattle.net_forms.specs.declared.forms.Tables.{Tables}
use Rattle.net_forms.specs.Along.{AreAlong}
use Rattle.net_forms.specs.Rules.{AreRuleForms}

-- the function gives a header 1 where the list passes it, and else 0
pub record IsList (fs : Functions) (list : Option AccessList) (function : ℕ) : Type 0 where
  pub below : function < count_of fs
  pub exact : (h : Header) → IsHeader h → value_at fs function (number h) ≡ Some (number_of (passes (verdict list h)))

-- the first list of that name, if there is a name and such a list
abbrev pub list_in : List AccessList → Option (List ℕ) → Option AccessList
list_in lists name = option_and_then (λ n. find (λ l. same_text l.name n) lists) name

-- the function of a list of the device, by its position
abbrev pub IsKnown : Functions → List AccessList → KnownList → Type 0
IsKnown fs lists k = IsList fs (slice_get lists k.position) k.function

-- the functions of an interface's lists
pub record IsSeatForm (fs : Functions) (c : Config) (i : Interface) (x : SeatForm) : Type 0 where
  pub input : IsList fs (list_named c i.input) x.input
  pub output : IsList fs (list_named c i.output) x.output

-- each interface has the functions of its lists
abbrev pub AreSeatForms : Functions → Config → List Interface → List SeatForm → Type 0
AreSeatForms fs c interfaces seats = AreAlong (IsSeatForm fs c) interfaces seats

-- the functions of a device
pub record IsDeviceForm (fs : Functions) (fates : List Fate) (d : NetDevice) (f : DeviceForm) : Type 0 where
  pub numbers : length d.config.interfaces ≤ length d.numbers
  pub seats : AreSeatForms fs d.config d.config.interfaces f.seats.items
  pub rules : AreRuleForms fs d.config.nat f.rules
  pub fates_below : f.fates < count_of fs
  pub numbered : (h : Header) → IsHeader h → HasFate d.config fates (value_at fs f.fates (number h)) h.dst

-- the interface of the device at some position, with what the compiled device has there
pub record IsFormOfSeat (d : NetDevice) (f : DeviceForm) (seat : Seat) (x : SeatForm) : Type 0 where
  pub position : ℕ
  pub device : seat.device ≡ d
  pub interface : slice_get d.config.interfaces position ≡ Some seat.interface
  pub form : slice_get f.seats.items position ≡ Some x

-- functions and fates were added, and each that was there keeps its number
pub record TablesGrow (old new : Tables) : Type 0 where
  pub diagrams : Keeps old.diagrams new.diagrams
  pub fates : Extends old.fates new.fates
