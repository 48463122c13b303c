-- Walks: how a packet goes from device to device under its TTL, how it may end, and the label of a header, which is the
-- set of its ends. The rule of the TTL is that of RFC 1812, 5.3.1.
use Rattle.std.specs.Prelude.{◌≡◌, ℕ, zero, suc, ◌+◌, ◌<◌, Bool, true, false, List, [], ◌∷◌, ◌++◌, Option, Some, None, map, ◌↔◌, flat_map, filter_map, Contains, ◌==◌, if◌then◌else◌}
use Rattle.hdr_bits.specs.declared.header.Header.{Header}
use Rattle.net_types.specs.declared.label.Outcome.{Outcome}
use Rattle.net_types.specs.declared.label.Outcome.TheVariants as outcome
use Rattle.net_types.specs.declared.network.Move.{Move}
use Rattle.net_types.specs.declared.network.Move.TheVariants.{Drop, Local, Lost, Exit, Go}
use Rattle.net_types.specs.declared.network.Place.{Place}
use Rattle.net_types.specs.declared.network.State.{State}
use Rattle.net_types.specs.World.{World}
use Rattle.net_types.specs.Moves.{moves}
use Rattle.net_types.specs.Order.{in_order, outcome_cmp}

-- ---- walks

-- a walk of n moves from one state to another, each move a Go of the state before it
abbrev pub IsWalk : World → ℕ → State → State → Type 0
IsWalk w zero s u = s ≡ u
IsWalk w (suc n) s u = (v : State) × IsWalk w n s v × Contains (moves w v.place v.header) (Go u.place u.header)

abbrev pub next_state : Move → Option State
next_state Drop = None
next_state (Local p) = None
next_state Lost = None
next_state (Exit p h) = None
next_state (Go p h) = Some (record { place = p; header = h })

abbrev pub next_states : World → State → List State
next_states w u = filter_map next_state (moves w u.place u.header)

-- computed: where the walks of n moves lead. The law is `states_are_walks`
abbrev pub states_after : World → ℕ → State → List State
states_after w zero s = s ∷ []
states_after w (suc n) s = flat_map (next_states w) (states_after w n s)

-- ---- ends

-- how a walk ends: with its place, and with its last header where it leaves the network
pub data End : Type 0 where
  dropped : End
  expired : End
  local : Place → End
  exit : Place → Header → End

-- how a move ends a walk where the TTL on arrival is above 1: a Go ends nothing
abbrev pub end_by : Move → Option End
end_by Drop = Some dropped
end_by (Local p) = Some (local p)
end_by Lost = Some dropped
end_by (Exit p h) = Some (exit p h)
end_by (Go p h) = None

-- how a move ends a walk where the TTL on arrival is 1: what would be sent on expires (RFC 1812, 5.3.1)
abbrev pub last_end_by : Move → Option End
last_end_by Drop = Some dropped
last_end_by (Local p) = Some (local p)
last_end_by Lost = Some expired
last_end_by (Exit p h) = Some expired
last_end_by (Go p h) = Some expired

abbrev pub end_of : Bool → Move → Option End
end_of true = last_end_by
end_of false = end_by

-- an end of a packet that arrives in state s with the TTL t: some walk of fewer than t moves leads to a state with a move
-- that ends it, where the TTL is 1 after t - 1 moves
pub record IsEnd (w : World) (t : ℕ) (s : State) (e : End) : Type 0 where
  pub count : ℕ
  pub within : count < t
  pub state : State
  pub walk : IsWalk w count s state
  pub move : Move
  pub made : Contains (moves w state.place state.header) move
  pub ends : end_of (count + 1 == t) move ≡ Some e

abbrev pub ends_at : World → Bool → State → List End
ends_at w last u = filter_map (end_of last) (moves w u.place u.header)

-- computed: the ends of the walks of n moves
abbrev pub ends_after : World → ℕ → State → ℕ → List End
ends_after w t s n = flat_map (ends_at w (n + 1 == t)) (states_after w n s)

-- computed: the ends of the walks of fewer than n moves
abbrev pub ends_below : World → ℕ → State → ℕ → List End
ends_below w t s zero = []
ends_below w t s (suc n) = ends_below w t s n ++ ends_after w t s n

-- computed: all ends. The law is `ends_are_ends_of_walks`
abbrev pub ends : World → ℕ → State → List End
ends w t s = ends_below w t s t

-- ---- labels

-- a field of the last header, where it differs from the first header's
abbrev pub changed : ℕ → ℕ → Option ℕ
changed before after = if before == after then None else Some after

-- an end as an outcome: the last header relative to the first one, g
abbrev pub outcome_of : Header → End → Outcome
outcome_of g dropped = outcome.Dropped
outcome_of g expired = outcome.Expired
outcome_of g (local p) = outcome.Local p
outcome_of g (exit p h) = outcome.Exit p (changed g.src h.src) (changed g.dst h.dst) (changed g.sport h.sport) (changed g.dport h.dport)

abbrev pub state_at : Place → Header → State
state_at p h = record { place = p; header = h }

-- the label of a header that enters at a place with the TTL t: the outcomes of all its ends, in order, each once. Laws:
-- under a TTL of at least 1 it is never empty (`labels_have_outcomes`), and two labels of one header are equal exactly where the sets of ends are
-- (`labels_tell_ends`)
unfoldable pub label : World → ℕ → Place → Header → List Outcome
label w t p h = in_order outcome_cmp (map (outcome_of h) (ends w t (state_at p h)))

-- the header has an end with this outcome
pub record HasEnd (w : World) (t : ℕ) (p : Place) (h : Header) (o : Outcome) : Type 0 where
  pub end : End
  pub is : IsEnd w t (state_at p h) end
  pub outcome : outcome_of h end ≡ o

-- the header has the same ends in both worlds
abbrev pub SameEnds : World → World → ℕ → Place → Header → Type 0
SameEnds old new t p h = (e : End) → IsEnd old t (state_at p h) e ↔ IsEnd new t (state_at p h) e
