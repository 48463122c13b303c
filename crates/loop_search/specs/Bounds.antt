-- Bounds of what loops: for each list of ways a set that has the headers that enter a loop.
use Rattle.std.specs.Prelude.{ℕ, ◌≡◌, ◌≤◌, ◌<◌, List, All, Option, Some, slice_get, option_and_then}
use Rattle.indexmap.specs.IndexMap.{get}
use Rattle.hdr_bits.specs.declared.header.Header.{Header}
use Rattle.hdr_bits.specs.HeaderBits.{IsHeader}
use Rattle.cube_diagram.specs.Functions.{Functions, count_of}
use Rattle.net_types.specs.declared.network.Place.{Place}
use Rattle.net_types.specs.declared.network.State.{State}
use Rattle.net_types.specs.Walks.{IsWalk, state_at}
use Rattle.net_types.specs.World.{World, same_place}
use Rattle.net_view.specs.Borrowed.{world_of}
use Rattle.set_walk.specs.declared.net.Net.{Net}
use Rattle.set_walk.specs.Sets.{InSet}

-- a walk from the state comes to some state and, after one move or more, to the same one again, under whatever TTL
pub record EntersLoop (w : World) (s : State) : Type 0 where
  pub before : ℕ
  pub around : ℕ
  pub moves : 1 ≤ around
  pub state : State
  pub comes : IsWalk w before s state
  pub again : IsWalk w around state state

-- the sets are in the table
abbrev pub AreInTable : Functions → List ℕ → Type 0
AreInTable fs sets = All (λ s. s < count_of fs) sets

-- a set stands at the position, and has the header
pub record IsInAt (fs : Functions) (sets : List ℕ) (position : Option ℕ) (h : Header) : Type 0 where
  pub set : ℕ
  pub there : option_and_then (slice_get sets) position ≡ Some set
  pub inside : InSet fs set h

-- a header that enters a loop from a place is in the set of the place's list
abbrev pub AreBounds : Functions → Net → List ℕ → Type 0
AreBounds fs net sets = (p : Place) (h : Header) → IsHeader h → EntersLoop (world_of net.world) (state_at p h) → IsInAt fs sets (get same_place net.places.now p) h
