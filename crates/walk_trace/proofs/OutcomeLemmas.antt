-- The outcomes that are gathered are those of the ends of all walks.
use Rattle.std.proofs.Common.{◌≡◌, inl, inr, ℕ, zero, suc, ◌+◌, ◌-◌, ◌<◌, ◌≤◌, ◌==◌, Bool, true, false, cond, List, [], ◌∷◌, ◌++◌, Option, Some, None, map, refl, sym, ap, subst, ◌∙◌, arith}
use Rattle.std.specs.Prelude.{filter_map, flat_map, option_map}
use Rattle.std.specs.List.{cons_option}
use Rattle.std.proofs.Math.Numerals.{add-one}
use Rattle.std.proofs.lemmas.Bool.Decides.{nat_tests}
use Rattle.std.proofs.lemmas.Grind.{flat_map-append}
use Rattle.std.proofs.lemmas.List.{map-append}
use Rattle.hdr_bits.specs.declared.header.Header.{Header}
use Rattle.net_types.specs.declared.label.Outcome.{Outcome}
use Rattle.net_types.specs.declared.network.Hop.{Hop}
use Rattle.net_types.specs.declared.network.Move.{Move}
use Rattle.net_types.specs.declared.network.Move.TheVariants.{Drop}
use Rattle.net_types.specs.declared.network.Place.{Place}
use Rattle.net_types.specs.declared.network.State.{State}
use Rattle.net_types.specs.Routes.{hops, rib_of}
use Rattle.net_types.specs.World.{World, Seat, seat_at}
use Rattle.net_types.specs.Moves.{moves, moves_at, moves_in, local_or_forward, move_by, is_dropped, lets_in, coming_in, owner}
use Rattle.net_types.specs.Walks.{next_state, next_states, states_after, end_of, ends_at, ends_after, ends_below, ends, outcome_of, state_at, label}
use Rattle.net_types.specs.Order.{in_order, outcome_cmp, hop_cmp}
use Rattle.net_types.proofs.EndLaws.{some_image}
use Rattle.net_types.proofs.HopOrder.{hop_total, hop_exact}
use Rattle.net_types.proofs.Members.{in_none}
use Rattle.net_types.proofs.NeverEmpty.{some_ends}
use Rattle.net_types.proofs.Ordered.{is_in_order, in_order_sorted, Contains_from_has, has_from_Contains, in_order_has}
use Rattle.net_types.proofs.Outcomes.{total, exact}
use Rattle.walk_trace.specs.Numbered.{choices, ordered_moves, ordered_moves_at, ordered_moves_in, ordered_moves_by, next_in_order, reached, reached_below, firsts, numbered}
use Rattle.header_rules.specs.Outcomes.{outcome_by}
use Rattle.header_rules.proofs.OutcomeLemmas.{outcomes_of_ends}
use Rattle.walk_trace.specs.Outcomes.{outcomes_at, SameSet}
use Rattle.walk_trace.proofs.Adding.{gained, only}
use Rattle.walk_trace.proofs.Breadth.{reached_of, number_for}
use Rattle.walk_trace.proofs.SetLemmas.{same_refl, same_trans, same_append, same_map, same_filter_map, same_flat_map, same_some, map_flat}

-- ---- moves

choices_same : (hs : List Hop) → SameSet (in_order hop_cmp hs) hs
choices_same hs q = (
  λ h. Contains_from_has hop_cmp hop_total hop_exact q hs (sym (in_order_has hop_cmp hop_total hop_exact q hs) ∙ has_from_Contains hop_cmp hop_total hop_exact q (in_order hop_cmp hs) h),
  λ h. Contains_from_has hop_cmp hop_total hop_exact q (in_order hop_cmp hs) (in_order_has hop_cmp hop_total hop_exact q hs ∙ has_from_Contains hop_cmp hop_total hop_exact q hs h),
)

by_test : (b : Bool) (ms ns us vs : List Move) → SameSet ms us → SameSet ns vs → SameSet (cond b ms ns) (cond b us vs)
by_test true ms ns us vs h g = h
by_test false ms ns us vs h g = g

module _ (w : World) where
  forwarded : (seat : Seat) (h : Header) (own : Option Seat) → SameSet (ordered_moves_by w seat h own) (local_or_forward w seat h own)
  forwarded seat h (Some own) = same_refl (local_or_forward w seat h (Some own))
  forwarded seat h None =
      same_map (move_by w seat h) (choices seat.device.config h.dst) (hops (rib_of seat.device.config) h.dst) (choices_same (hops (rib_of seat.device.config) h.dst))

  moves_same_in : (seat : Seat) (h : Header) → SameSet (ordered_moves_in w seat h) (moves_in w seat h)
  moves_same_in seat h =
      by_test (is_dropped seat.device.config h.dst) (Drop ∷ []) (ordered_moves_by w seat h (owner seat h.dst)) (Drop ∷ []) (local_or_forward w seat h (owner seat h.dst)) (same_refl (Drop ∷ [])) (forwarded seat h (owner seat h.dst))

  moves_same_at : (seat : Option Seat) (h : Header) → SameSet (ordered_moves_at w seat h) (moves_at w seat h)
  moves_same_at None h = same_refl (Drop ∷ [])
  moves_same_at (Some seat) h =
      by_test (lets_in seat h) (ordered_moves_in w seat (coming_in seat h)) (Drop ∷ []) (moves_in w seat (coming_in seat h)) (Drop ∷ []) (moves_same_in seat (coming_in seat h)) (same_refl (Drop ∷ []))

  pub moves_same : (u : State) → SameSet (ordered_moves w u) (moves w u.place u.header)
  moves_same u = moves_same_at (seat_at w u.place) u.header

  -- ---- states

  next_same : (u : State) → SameSet (next_in_order w u) (next_states w u)
  next_same u = same_filter_map next_state (ordered_moves w u) (moves w u.place u.header) (moves_same u)

  pub reached_same : (n : ℕ) (s : State) → SameSet (reached w n s) (states_after w n s)
  reached_same zero s = same_refl (s ∷ [])
  reached_same (suc n) s = same_flat_map (next_in_order w) (next_states w) (reached w n s) (states_after w n s) (reached_same n s) next_same
  -- ---- outcomes

module _ (w : World) (g : Header) where
  outcomes_same : (last : Bool) (u : State) → SameSet (outcomes_at w last g u) (map (outcome_of g) (ends_at w last u))
  outcomes_same last u =
      subst (SameSet (outcomes_at w last g u)) (sym (outcomes_of_ends g last (moves w u.place u.header)))
      (same_filter_map (outcome_by g last) (ordered_moves w u) (moves w u.place u.header) (moves_same w u))

  level_same : (last : Bool) (xs : List State) (n : ℕ) (s : State) → SameSet xs (reached w n s) → SameSet (flat_map (outcomes_at w last g) xs) (map (outcome_of g) (flat_map (ends_at w last) (states_after w n s)))
  level_same last xs n s h =
      subst (SameSet (flat_map (outcomes_at w last g) xs)) (map_flat (outcome_of g) (ends_at w last) (states_after w n s))
      (same_flat_map (outcomes_at w last g) (λ u. map (outcome_of g) (ends_at w last u)) xs (states_after w n s) (same_trans xs (reached w n s) (states_after w n s) h (reached_same w n s)) (outcomes_same last))

  early_same : (t n : ℕ) (s : State) → n < t → SameSet (flat_map (outcomes_at w false g) (reached_below w s n)) (map (outcome_of g) (ends_below w t s n))
  early_same t zero s h = same_refl []
  early_same t (suc n) s h =
      let early : (n + 1 == t) ≡ false = grind (arith, nat_tests) in
      let here : SameSet (flat_map (outcomes_at w false g) (reached w n s)) (map (outcome_of g) (ends_after w t s n)) = subst (λ b. SameSet (flat_map (outcomes_at w false g) (reached w n s)) (map (outcome_of g) (flat_map (ends_at w b) (states_after w n s)))) (sym early) (level_same false (reached w n s) n s (same_refl (reached w n s))) in
      subst (λ l. SameSet l (map (outcome_of g) (ends_below w t s n ++ ends_after w t s n))) (sym (flat_map-append (outcomes_at w false g) (reached_below w s n) (reached w n s)))
      (subst (SameSet (flat_map (outcomes_at w false g) (reached_below w s n) ++ flat_map (outcomes_at w false g) (reached w n s))) (sym (map-append (outcome_of g) (ends_below w t s n) (ends_after w t s n)))
      (same_append (flat_map (outcomes_at w false g) (reached_below w s n)) (flat_map (outcomes_at w false g) (reached w n s)) (map (outcome_of g) (ends_below w t s n)) (map (outcome_of g) (ends_after w t s n)) (early_same t n s (omega (arith, h))) here))

  numbers_same : (n : ℕ) (s : State) → SameSet (numbered w n s) (reached_below w s n)
  numbers_same n s u = (reached_of w s n u, number_for w s n u)

  all_same : (m : ℕ) (s : State) (last : List State) → SameSet last (reached w m s) → SameSet (flat_map (outcomes_at w false g) (numbered w m s) ++ flat_map (outcomes_at w true g) last) (map (outcome_of g) (ends w (suc m) s))
  all_same m s last h =
      let at_last : (m + 1 == suc m) ≡ true = grind (arith, nat_tests) in
      let early : SameSet (flat_map (outcomes_at w false g) (numbered w m s)) (map (outcome_of g) (ends_below w (suc m) s m)) = same_trans (flat_map (outcomes_at w false g) (numbered w m s)) (flat_map (outcomes_at w false g) (reached_below w s m)) (map (outcome_of g) (ends_below w (suc m) s m)) (same_flat_map (outcomes_at w false g) (outcomes_at w false g) (numbered w m s) (reached_below w s m) (numbers_same m s) (λ u. same_refl (outcomes_at w false g u))) (early_same (suc m) m s (omega arith)) in
      let late : SameSet (flat_map (outcomes_at w true g) last) (map (outcome_of g) (ends_after w (suc m) s m)) = subst (λ b. SameSet (flat_map (outcomes_at w true g) last) (map (outcome_of g) (flat_map (ends_at w b) (states_after w m s)))) (sym at_last) (level_same true last m s h) in
      subst (SameSet (flat_map (outcomes_at w false g) (numbered w m s) ++ flat_map (outcomes_at w true g) last)) (sym (map-append (outcome_of g) (ends_below w (suc m) s m) (ends_after w (suc m) s m)))
      (same_append (flat_map (outcomes_at w false g) (numbered w m s)) (flat_map (outcomes_at w true g) last) (map (outcome_of g) (ends_below w (suc m) s m)) (map (outcome_of g) (ends_after w (suc m) s m)) early late)

  -- the same for a TTL that isn't 0
  pub all_outcomes : (t : ℕ) (s : State) (last : List State) → 1 ≤ t → SameSet last (reached w (t - 1) s) → SameSet (flat_map (outcomes_at w false g) (numbered w (t - 1) s) ++ flat_map (outcomes_at w true g) last) (map (outcome_of g) (ends w t s))
  all_outcomes zero s last l h = absurd (omega (arith, l))
  all_outcomes (suc m) s last l h =
      let e : suc m - 1 ≡ m = omega arith in
      subst (λ (k : ℕ). SameSet last (reached w k s) → SameSet (flat_map (outcomes_at w false g) (numbered w k s) ++ flat_map (outcomes_at w true g) last) (map (outcome_of g) (ends w (suc m) s))) (sym e) (all_same m s last) h

-- ---- the label

outcomes_in_order : (xs : List Outcome) → SameSet (in_order outcome_cmp xs) xs
outcomes_in_order xs q = (
  λ h. Contains_from_has outcome_cmp total exact q xs (sym (in_order_has outcome_cmp total exact q xs) ∙ has_from_Contains outcome_cmp total exact q (in_order outcome_cmp xs) h),
  λ h. Contains_from_has outcome_cmp total exact q (in_order outcome_cmp xs) (in_order_has outcome_cmp total exact q xs ∙ has_from_Contains outcome_cmp total exact q xs h),
)

pub same_order : (xs ys : List Outcome) → SameSet xs ys → in_order outcome_cmp xs ≡ in_order outcome_cmp ys
same_order xs ys h =
    is_in_order outcome_cmp total exact ys (in_order outcome_cmp xs) (in_order_sorted outcome_cmp total exact xs) (same_trans (in_order outcome_cmp xs) xs ys (outcomes_in_order xs) h)

pub label_of : (w : World) (t : ℕ) (p : Place) (h : Header) (xs : List Outcome) → SameSet xs (map (outcome_of h) (ends w t (state_at p h))) → in_order outcome_cmp xs ≡ label w t p h
unfolding label
label_of w t p h xs same = same_order xs (map (outcome_of h) (ends w t (state_at p h))) same

some_of : (w : World) (t : ℕ) (s : State) → 1 ≤ t → map (outcome_of s.header) (ends w t s) ≡ [] → ⊥
some_of w zero s h e = omega (arith, h)
some_of w (suc t) s h e = some_image (outcome_of s.header) (ends w (suc t) s) (some_ends w t s) e

pub some_found : (w : World) (t : ℕ) (s : State) (xs : List Outcome) → 1 ≤ t → SameSet xs (map (outcome_of s.header) (ends w t s)) → xs ≡ [] → ⊥
some_found w t s xs l h = same_some xs (map (outcome_of s.header) (ends w t s)) h (some_of w t s l)

-- ---- levels

firsts_same : (xs : List State) → SameSet (firsts xs) xs
firsts_same xs u = (λ c. elim (only xs [] u c) [ inl d ↦ absurd (in_none u d) | inr d ↦ d ], λ c. gained xs [] u c)

pub level_more : (w : World) (n : ℕ) (s : State) (xs ys : List State) → SameSet xs (reached w n s) → ys ≡ firsts (flat_map (next_in_order w) xs) → SameSet ys (reached w (n + 1) s)
level_more w n s xs ys h e =
    rw (add-one, e) (same_trans (firsts (flat_map (next_in_order w) xs)) (flat_map (next_in_order w) xs) (flat_map (next_in_order w) (reached w n s)) (firsts_same (flat_map (next_in_order w) xs)) (same_flat_map (next_in_order w) (next_in_order w) xs (reached w n s) h (λ u. same_refl (next_in_order w u))))
