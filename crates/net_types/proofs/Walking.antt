-- The states after n moves are where the walks of n moves lead.
use Rattle.std.proofs.Common.{◌≡◌, ◌↔◌, ℕ, zero, suc, [], ◌∷◌, Some, refl, subst}
use Rattle.std.specs.Prelude.{Contains}
use Rattle.net_types.specs.declared.network.Move.{Move}
use Rattle.net_types.specs.declared.network.Move.TheVariants.{Drop, Local, Lost, Exit, Go}
use Rattle.net_types.specs.declared.network.State.{State}
use Rattle.net_types.specs.World.{World}
use Rattle.net_types.specs.Moves.{moves}
use Rattle.net_types.specs.Walks.{IsWalk, states_after, next_states, next_state}
use Rattle.net_types.proofs.Members.{here, in_one, in_flat_map, to_flat_map, in_filter_map, to_filter_map}

only_go : (m : Move) (u : State) → next_state m ≡ Some u → m ≡ Go u.place u.header
only_go Drop u e = cc
only_go (Local p) u e = cc
only_go Lost u e = cc
only_go (Exit p h) u e = cc
only_go (Go p h) u e = cc

pub walk_from_states : (w : World) (n : ℕ) (s u : State) → Contains (states_after w n s) u → IsWalk w n s u
walk_from_states w zero s u h = in_one s u h
walk_from_states w (suc n) s u h =
    let i = in_flat_map (next_states w) (states_after w n s) u h in
    let j = in_filter_map next_state (moves w i.0.place i.0.header) u i.2 in
    (i.0, walk_from_states w n s i.0 i.1, subst (Contains (moves w i.0.place i.0.header)) (only_go j.0 u j.2) j.1)

pub states_from_walk : (w : World) (n : ℕ) (s u : State) → IsWalk w n s u → Contains (states_after w n s) u
states_from_walk w zero s u e = subst (Contains (s ∷ [])) e (here s [])
states_from_walk w (suc n) s u (v, h, g) =
    to_flat_map (next_states w) (states_after w n s) u v (states_from_walk w n s v h)
    (to_filter_map next_state (moves w v.place v.header) u (Go u.place u.header) g refl)

pub states_are_walks : (w : World) (n : ℕ) (s u : State) → Contains (states_after w n s) u ↔ IsWalk w n s u
states_are_walks w n s u = (walk_from_states w n s u, states_from_walk w n s u)
