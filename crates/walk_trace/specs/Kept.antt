-- What is kept of a network while a packet is traced through it, so that no device is asked twice: each is what the rules say.
use Rattle.std.specs.Prelude.{◌≡◌, ℕ, Bool, ◌&&◌, ◌==◌, List, Option, Some, find}
use Rattle.net_types.specs.declared.config.Route.{Route}
use Rattle.net_types.specs.declared.network.Hop.{Hop}
use Rattle.net_types.specs.declared.network.Move.{Move}
use Rattle.net_types.specs.declared.network.NetDevice.{NetDevice}
use Rattle.net_types.specs.declared.network.Rib.{Rib}
use Rattle.net_types.specs.Routes.{rib_of}
use Rattle.net_types.specs.World.{World, Seat}
use Rattle.walk_trace.specs.declared.states.StateKey.{StateKey}
use Rattle.walk_trace.specs.Keys.{state_of}
use Rattle.walk_trace.specs.Numbered.{choices, ordered_moves, same_state}

-- the device is the first of its name
abbrev pub IsFirst : World → NetDevice → Type 0
IsFirst w d = find (λ e. e.name == d.name) w.network.devices ≡ Some d

-- the device of the seat is the first of its name
abbrev pub IsSeated : World → Seat → Type 0
IsSeated w seat = IsFirst w seat.device

-- each value of a table is one that its key may have
abbrev pub AllKept : {K V : Type 0} → (K → V → Type 0) → (K → Option V) → Type 0
AllKept {K} {V} may table = (k : K) (v : V) → table k ≡ Some v → may k v

-- these are the routes of the first device of this name
abbrev pub IsRibOf : World → ℕ → Rib → Type 0
IsRibOf w name rib = (d : NetDevice) → find (λ e. e.name == name) w.network.devices ≡ Some d → rib ≡ rib_of d.config

-- these are the choices of the first device of this name for this address
abbrev pub AreChoicesOf : World → ℕ × ℕ → List Hop → Type 0
AreChoicesOf w asked hops = (d : NetDevice) → find (λ e. e.name == asked.0) w.network.devices ≡ Some d → hops ≡ choices d.config asked.1

-- these are the moves of the state
abbrev pub AreMovesOf : World → StateKey → List Move → Type 0
AreMovesOf w key moves = moves ≡ ordered_moves w (state_of key)

-- two pairs of numbers are one
abbrev pub same_pair : ℕ × ℕ → ℕ × ℕ → Bool
same_pair a b = a.0 == b.0 && a.1 == b.1

-- two keys are one where their states are
abbrev pub same_key : StateKey → StateKey → Bool
same_key a b = same_state (state_of a) (state_of b)
