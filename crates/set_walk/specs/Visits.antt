-- The sets of the headers that visit a device.
use Rattle.std.specs.Prelude.{ℕ, ◌≡◌, ◌<◌, ◌↔◌, List, Option, Some, None, Contains}
use Rattle.hdr_bits.specs.declared.header.Header.{Header}
use Rattle.hdr_bits.specs.HeaderBits.{IsHeader}
use Rattle.cube_diagram.specs.Functions.{Functions, count_of}
use Rattle.net_types.specs.declared.network.Place.{Place}
use Rattle.net_types.specs.declared.network.State.{State}
use Rattle.net_types.specs.World.{World}
use Rattle.net_types.specs.Visits.{Visits}
use Rattle.set_walk.specs.declared.step.Step.{Step}
use Rattle.set_walk.specs.declared.step.Step.TheVariants as step
use Rattle.set_walk.specs.declared.step.Way.{Way}
use Rattle.set_walk.specs.declared.visits.DeviceVisitors.{DeviceVisitors}
use Rattle.set_walk.specs.Sets.{InSet}
use Rattle.set_walk.specs.Keyed.{StandOnceBy, Adds}
use Rattle.set_walk.specs.Levels.{IsAt}

-- the device to whose place the step goes on
abbrev pub device_of_step : Step → Option ℕ
device_of_step step.Drop = None
device_of_step (step.Local p) = None
device_of_step step.Lost = None
device_of_step (step.Exit p s) = None
device_of_step (step.Go p s) = Some p.device

-- the header is in the set of the device
pub record HasVisitor (fs : Functions) (visitors : List DeviceVisitors) (h : Header) (d : ℕ) : Type 0 where
  pub of : DeviceVisitors
  pub among : Contains visitors of
  pub inside : InSet fs of.headers h
  pub is : of.device ≡ d

abbrev pub AreVisitorsBelow : Functions → List DeviceVisitors → Type 0
AreVisitorsBelow fs visitors = (x : DeviceVisitors) → Contains visitors x → x.headers < count_of fs

-- each device stands once
abbrev pub StandApart : List DeviceVisitors → Type 0
StandApart = StandOnceBy (λ (x : DeviceVisitors). x.device)

-- headers were added to the visitors, and none was lost
abbrev pub AddsVisitors : Functions → Functions → (Header → ℕ → Type 0) → List DeviceVisitors → List DeviceVisitors → Type 0
AddsVisitors = Adds AreVisitorsBelow HasVisitor

-- by one of the groups the header is at a place of the device
pub record ArrivesBy (fs : Functions) (groups : List Way) (h : Header) (d : ℕ) : Type 0 where
  pub state : State
  pub at : IsAt fs groups h state
  pub there : state.place.device ≡ d

-- for each header of the domain it visits a device under the TTL t exactly where it is in the device's set; no other header
-- is in one
pub record AreVisitors (w : World) (start : Functions) (domain : ℕ) (p : Place) (t : ℕ) (fs : Functions) (visitors : List DeviceVisitors) : Type 0 where
  pub below : AreVisitorsBelow fs visitors
  pub exact : (h : Header) → IsHeader h → (d : ℕ) → HasVisitor fs visitors h d ↔ (InSet start domain h × Visits w t p h d)
