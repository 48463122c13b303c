-- A packet ends in some way.
use Rattle.std.proofs.Common.{◌≡◌, ◌⊎◌, inl, inr, ℕ, zero, suc, ◌+◌, ◌<◌, Bool, true, false, cond, List, [], ◌∷◌, ◌++◌, Option, Some, None, map, sym, subst, arith, ◌==◌}
use Rattle.std.specs.Prelude.{filter_map, flat_map}
use Rattle.std.proofs.lemmas.Bool.Decides.{nat_tests}
use Rattle.hdr_bits.specs.declared.header.Header.{Header}
use Rattle.net_types.specs.declared.config.Route.{Route}
use Rattle.net_types.specs.declared.network.Hop.{Hop}
use Rattle.net_types.specs.declared.network.Move.{Move}
use Rattle.net_types.specs.declared.network.Move.TheVariants.{Drop, Local, Lost, Exit, Go}
use Rattle.net_types.specs.declared.network.Place.{Place}
use Rattle.net_types.specs.declared.network.State.{State}
use Rattle.net_types.specs.Routes.{hops, hops_within, or_discard, route_hops, best, rib_of}
use Rattle.net_types.specs.World.{World, Seat, seat_at}
use Rattle.net_types.specs.Moves.{moves, moves_at, moves_in, local_or_forward, owner, is_dropped, lets_in, coming_in, move_by}
use Rattle.net_types.specs.Walks.{next_state, next_states, states_after, end_by, last_end_by, ends_at, ends_after, ends_below, ends}

-- the list has an item
abbrev pub HasItem : {A : Type 0} → List A → Type 0
HasItem [] = ⊥
HasItem (x ∷ xs) = Unit {0}

front : {A : Type 0} (xs ys : List A) → HasItem xs → HasItem (xs ++ ys)
front [] ys h = absurd h
front (x ∷ xs) ys h = tt

back : {A : Type 0} (xs ys : List A) → HasItem ys → HasItem (xs ++ ys)
back [] ys h = h
back (x ∷ xs) ys h = tt

choice : (b : Bool) (ms ns : List Move) → HasItem ms → HasItem ns → HasItem (cond b ms ns)
choice true ms ns h g = h
choice false ms ns h g = g

some_discard : (hs : List Hop) → HasItem (or_discard hs)
some_discard [] = tt
some_discard (h ∷ hs) = tt

some_hops : (rs : List Route) (n a : ℕ) → HasItem (hops_within rs n a)
some_hops rs zero a = tt
some_hops rs (suc n) a = some_discard (flat_map (route_hops (λ b. hops_within rs n b) a) (best rs a))

some_map : {A B : Type 0} (f : A → B) (xs : List A) → HasItem xs → HasItem (map f xs)
some_map f [] h = absurd h
some_map f (x ∷ xs) h = tt

module _ (w : World) where
  forwarded : (seat : Seat) (h : Header) (own : Option Seat) → HasItem (local_or_forward w seat h own)
  forwarded seat h (Some own) = tt
  forwarded seat h None = some_map (move_by w seat h) (hops (rib_of seat.device.config) h.dst) (some_hops (rib_of seat.device.config).routes (rib_of seat.device.config).count h.dst)

  some_at : (o : Option Seat) (h : Header) → HasItem (moves_at w o h)
  some_at None h = tt
  some_at (Some seat) h =
      let g = coming_in seat h in
      choice (lets_in seat h) (moves_in w seat g) (Drop ∷ []) (choice (is_dropped seat.device.config g.dst) (Drop ∷ []) (local_or_forward w seat g (owner seat g.dst)) tt (forwarded seat g (owner seat g.dst))) tt

  pub some_moves : (p : Place) (h : Header) → HasItem (moves w p h)
  some_moves p h = some_at (seat_at w p) h

  -- a move ends the packet or leads on, and the last one ends it
  end_or_on : (ms : List Move) → HasItem ms → HasItem (filter_map end_by ms) ⊎ HasItem (filter_map next_state ms)
  end_or_on [] h = absurd h
  end_or_on (Drop ∷ ms) h = inl tt
  end_or_on (Local p ∷ ms) h = inl tt
  end_or_on (Lost ∷ ms) h = inl tt
  end_or_on (Exit p k ∷ ms) h = inl tt
  end_or_on (Go p k ∷ ms) h = inr tt

  all_end : (ms : List Move) → HasItem ms → HasItem (filter_map last_end_by ms)
  all_end [] h = absurd h
  all_end (Drop ∷ ms) h = tt
  all_end (Local p ∷ ms) h = tt
  all_end (Lost ∷ ms) h = tt
  all_end (Exit p k ∷ ms) h = tt
  all_end (Go p k ∷ ms) h = tt

  some_end_or_on : (us : List State) → HasItem us → HasItem (flat_map (ends_at w false) us) ⊎ HasItem (flat_map (next_states w) us)
  some_end_or_on [] h = absurd h
  some_end_or_on (u ∷ us) h = elim (end_or_on (moves w u.place u.header) (some_moves u.place u.header)) [
    | inl e ↦ inl (front _ _ e)
    | inr n ↦ inr (front _ _ n)
  ]

  some_last : (us : List State) → HasItem us → HasItem (flat_map (ends_at w true) us)
  some_last [] h = absurd h
  some_last (u ∷ us) h = front _ _ (all_end (moves w u.place u.header) (some_moves u.place u.header))

  -- before the last move some walk has ended or goes on
  walking : (t n : ℕ) (s : State) → n < t → HasItem (ends_below w t s n) ⊎ HasItem (states_after w n s)
  walking t zero s h = inr tt
  walking t (suc n) s h =
      let go_on : (n + 1 == t) ≡ false = grind (arith, nat_tests) in
      elim (walking t n s (omega arith)) [
        | inl e ↦ inl (front (ends_below w t s n) (ends_after w t s n) e)
        | inr u ↦ elim (some_end_or_on (states_after w n s) u) [
          | inl e ↦ inl (back (ends_below w t s n) (ends_after w t s n) (subst (λ b. HasItem (flat_map (ends_at w b) (states_after w n s))) (sym go_on) e))
          | inr v ↦ inr v
        ]
      ]

  pub some_ends : (t : ℕ) (s : State) → HasItem (ends w (suc t) s)
  some_ends t s =
      let at_last : (t + 1 == suc t) ≡ true = grind (arith, nat_tests) in
      elim (walking (suc t) t s (omega arith)) [
        | inl e ↦ front (ends_below w (suc t) s t) (ends_after w (suc t) s t) e
        | inr u ↦ back (ends_below w (suc t) s t) (ends_after w (suc t) s t) (subst (λ b. HasItem (flat_map (ends_at w b) (states_after w t s))) (sym at_last) (some_last (states_after w t s) u))
      ]
