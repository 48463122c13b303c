-- The regions that an edit touches, as they are after it.
use Rattle.std.specs.Prelude.{ℕ, ◌≡◌, ◌≤◌, ◌++◌, Bool, true, List, Option, Contains, filter}
use Rattle.indexmap.specs.IndexMap.{get}
use Rattle.hdr_bits.specs.declared.header.Header.{Header}
use Rattle.hdr_bits.specs.HeaderBits.{IsHeader}
use Rattle.cube_diagram.specs.Functions.{Functions}
use Rattle.live_network.specs.declared.live.LiveWays.{LiveWays}
use Rattle.net_types.specs.declared.network.NetDevice.{NetDevice}
use Rattle.net_types.specs.declared.network.Place.{Place}
use Rattle.net_types.specs.Edits.{DiffersOnlyAt}
use Rattle.net_types.specs.Moves.{moves}
use Rattle.net_types.specs.SameWalks.{SameWalksUnder}
use Rattle.net_types.specs.World.{World, same_place}
use Rattle.net_view.specs.Borrowed.{world_of}
use Rattle.place_ways.specs.Places.{ArePlaceWays}
use Rattle.set_walk.specs.declared.net.PlaceWays.{PlaceWays}
use Rattle.set_walk.specs.Nets.{IsNet}
use Rattle.set_walk.specs.Sets.{InSet}
use Rattle.incr_review.specs.declared.live.Change.{Change}
use Rattle.incr_review.specs.declared.regions.Region.{Region}
use Rattle.incr_review.specs.declared.walks.Again.{Again}
use Rattle.incr_review.specs.Again.{AreAgain, leaves}
use Rattle.incr_review.specs.Live.{PassesOn}
use Rattle.incr_review.specs.Regions.{AreReviewed, stays}

-- an edit that was made: the network after it, with its ways for the headers of the scope, the positions of places before and after
-- it, the device, and whether it is known that no device translates
pub record Step : Type 0 where
  pub world : World
  pub scope : ℕ
  pub lists : List PlaceWays
  pub before : Place → Option ℕ
  pub after : Place → Option ℕ
  pub device : NetDevice
  pub plain : Bool
  pub ttl : ℕ

abbrev pub step_of : Again → Step
step_of a = record { world = world_of a.net.now.world; scope = a.net.now.scope; lists = a.net.now.lists.now; before = get same_place a.before.now; after = get same_place a.net.now.places.now; device = a.device.now; plain = a.plain; ttl = a.ttl }

abbrev pub live_step : LiveWays → World → Change → Step
live_step n w c = record { world = w; scope = n.scope; lists = n.ways.lists.items; before = get same_place c.before.now; after = get same_place n.ways.positions; device = c.device.now; plain = c.plain; ttl = c.ttl }

-- this is the network before the edit: it had the ways at the positions of before, and the edited one differs from it at the device
-- alone. At a place that is none of the device's numbers the device moves headers as before
pub record IsBefore (fs : Functions) (s : Step) (w : World) : Type 0 where
  pub ways : ArePlaceWays w fs s.scope s.lists s.before
  pub differs : DiffersOnlyAt w s.world s.device.name
  pub plain : s.plain ≡ true → PassesOn w
  pub others : (p : Place) (h : Header) → p.device ≡ s.device.name → (Contains s.device.numbers p.interface → ⊥) → moves w p h ≡ moves s.world p h

-- a header outside the set walks as before
abbrev pub IsChangedSet : Functions → Step → Functions → ℕ → Type 0
IsChangedSet f s g set = (w : World) → IsBefore f s w → (p : Place) (h : Header) → IsHeader h → (InSet g set h → ⊥) → (t : ℕ) → SameWalksUnder w s.world t p h

-- the network has its ways in the table, for all headers
pub record IsWalkOf (fs : Functions) (again : Again) : Type 0 where
  pub net : IsNet fs again.net.now
  pub all : (h : Header) → InSet fs again.net.now.scope h
  pub least : 1 ≤ again.ttl

-- the headers of the regions that visit the device, as they walk after the edit
abbrev pub IsAgainAfter : Functions → Step → List Region → Functions → List Region → Type 0
IsAgainAfter f s regions g more = (old w : World) → IsBefore f s w → AreReviewed old w s.ttl s.world.links.ingress f regions → AreAgain s.world s.ttl s.world.links.ingress f (filter (leaves s.device.name) regions) g more

-- the regions that stay stand first, and behind them stand those of the headers of the others, as they walk now
pub record HaveWalked (f : Functions) (s : Step) (g : Functions) (before after : List Region) : Type 0 where
  pub more : List Region
  pub are : after ≡ filter (stays s.device.name) before ++ more
  pub right : IsAgainAfter f s before g more
