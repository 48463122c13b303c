-- The devices that a header visits.
use Rattle.std.specs.Prelude.{ℕ, ◌≡◌, ◌<◌}
use Rattle.hdr_bits.specs.declared.header.Header.{Header}
use Rattle.net_types.specs.declared.network.Place.{Place}
use Rattle.net_types.specs.declared.network.State.{State}
use Rattle.net_types.specs.World.{World}
use Rattle.net_types.specs.Walks.{IsWalk, state_at}

-- a header that enters at p with the TTL t visits the device: some walk of at most t - 1 moves ends at one of its places.
-- Where t is 0 it visits none
pub record Visits (w : World) (t : ℕ) (p : Place) (h : Header) (device : ℕ) : Type 0 where
  pub count : ℕ
  pub within : count < t
  pub state : State
  pub walk : IsWalk w count (state_at p h) state
  pub there : state.place.device ≡ device
