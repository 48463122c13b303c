-- What is known of the edited network and of what is kept of it.
use Rattle.std.specs.Prelude.{ℕ, ◌≡◌, [], List, Option, Some, Contains, slice_get, option_and_then}
use Rattle.hdr_bits.specs.declared.header.Header.{Header}
use Rattle.cube_diagram.specs.Functions.{Functions, Keeps}
use Rattle.live_network.specs.declared.live.LiveWays.{LiveWays}
use Rattle.net_types.specs.declared.network.Move.TheVariants.{Go}
use Rattle.net_types.specs.declared.network.NetDevice.{NetDevice}
use Rattle.net_types.specs.declared.network.Place.{Place}
use Rattle.net_types.specs.World.{World}
use Rattle.net_types.specs.Moves.{moves}
use Rattle.place_ways.specs.Adding.{AreGiven}
use Rattle.set_walk.specs.declared.net.PlaceWays.{PlaceWays}

-- no device has a translation rule
abbrev pub HaveNoRules : List NetDevice → Type 0
HaveNoRules devices = (d : NetDevice) → Contains devices d → d.config.nat ≡ []

-- a header goes on as it comes
abbrev pub PassesOn : World → Type 0
PassesOn w = (p q : Place) (h g : Header) → Contains (moves w p h) (Go q g) → g ≡ h

-- what stands in the lists at the place's position
abbrev pub ways_in : List PlaceWays → (Place → Option ℕ) → Place → Option PlaceWays
ways_in lists at p = option_and_then (slice_get lists) (at p)

-- the ways of places are functions of the table
abbrev pub AreWaysGiven : Functions → List PlaceWays → (Place → Option ℕ) → Type 0
AreWaysGiven fs lists at = (p : Place) (v : PlaceWays) → ways_in lists at p ≡ Some v → AreGiven fs v.ways.items

-- functions were added, and nothing else is changed
pub record IsWalked (old new : LiveWays) : Type 0 where
  pub scope : new.scope ≡ old.scope
  pub ways : new.ways ≡ old.ways
  pub kept : Keeps old.tables.diagrams new.tables.diagrams
