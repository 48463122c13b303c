-- Headers that walk alike in two networks.
use Rattle.std.specs.Prelude.{ℕ, ◌<◌, ◌↔◌, Contains}
use Rattle.hdr_bits.specs.declared.header.Header.{Header}
use Rattle.net_types.specs.declared.network.Move.{Move}
use Rattle.net_types.specs.declared.network.Place.{Place}
use Rattle.net_types.specs.declared.network.State.{State}
use Rattle.net_types.specs.World.{World}
use Rattle.net_types.specs.Moves.{moves}
use Rattle.net_types.specs.Walks.{states_after, state_at}

-- the header has the same moves at the place in both networks
abbrev pub MovesAgree : World → World → Place → Header → Type 0
MovesAgree old new p h = (m : Move) → Contains (moves old p h) m ↔ Contains (moves new p h) m

-- a header that enters at p with the TTL t has in both networks the same states after each number of moves below t, and at
-- each of them the same moves; each as a set. Law: it has the same label, it loops in both or in neither, and it visits the
-- same devices, under each TTL up to t (`same_walks_tell`)
pub record SameWalksUnder (old new : World) (t : ℕ) (p : Place) (h : Header) : Type 0 where
  pub states : (n : ℕ) → n < t → (u : State) → Contains (states_after old n (state_at p h)) u ↔ Contains (states_after new n (state_at p h)) u
  pub moves : (n : ℕ) → n < t → (u : State) → Contains (states_after old n (state_at p h)) u → MovesAgree old new u.place u.header
