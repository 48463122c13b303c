-- The computed ends are the ends of walks, and a label has exactly their outcomes.
use Rattle.std.proofs.Common.{◌≡◌, ◌↔◌, inl, inr, ℕ, zero, suc, ◌+◌, ◌<◌, ◌≤◌, ◌==◌, List, [], ◌∷◌, map, sym, subst, ◌∙◌, arith}
use Rattle.std.specs.Prelude.{Contains}
use Rattle.std.specs.List.Sorted.{IsStrictlySortedBy}
use Rattle.std.proofs.lemmas.List.Elements.{Contains-append_cases, Contains-append_left, Contains-append_right}
use Rattle.std.proofs.lemmas.Bool.{cases_lt}
use Rattle.hdr_bits.specs.declared.header.Header.{Header}
use Rattle.net_types.specs.declared.label.Outcome.{Outcome}
use Rattle.net_types.specs.declared.network.Place.{Place}
use Rattle.net_types.specs.declared.network.State.{State}
use Rattle.net_types.specs.World.{World}
use Rattle.net_types.specs.Moves.{moves}
use Rattle.net_types.specs.Order.{in_order, outcome_cmp, IsLabel}
use Rattle.net_types.specs.Walks.{End, IsEnd, end_of, states_after, ends_at, ends_after, ends_below, ends, outcome_of, state_at, HasEnd, label}
use Rattle.net_types.proofs.Members.{in_none, in_map, to_map, in_flat_map, to_flat_map, in_filter_map, to_filter_map}
use Rattle.net_types.proofs.Walking.{walk_from_states, states_from_walk}
use Rattle.net_types.proofs.Outcomes.{total, exact}
use Rattle.net_types.proofs.Ordered.{in_order_sorted, in_order_some, in_order_has, has_from_Contains, Contains_from_has}
use Rattle.net_types.proofs.NeverEmpty.{HasItem, some_ends}

module _ (w : World) (t : ℕ) (s : State) where
  after_is_end : (n : ℕ) → n < t → (e : End) → Contains (ends_after w t s n) e → IsEnd w t s e
  after_is_end n l e h =
      let i = in_flat_map (ends_at w (n + 1 == t)) (states_after w n s) e h in
      let j = in_filter_map (end_of (n + 1 == t)) (moves w i.0.place i.0.header) e i.2 in
      record {
        count = n;
        within = l;
        state = i.0;
        walk = walk_from_states w n s i.0 i.1;
        move = j.0;
        made = j.1;
        ends = j.2;
      }

  below_is_end : (n : ℕ) → n ≤ t → (e : End) → Contains (ends_below w t s n) e → IsEnd w t s e
  below_is_end zero l e h = absurd (in_none e h)
  below_is_end (suc n) l e h = elim (Contains-append_cases (ends_below w t s n) (ends_after w t s n) e h) [
    | inl g ↦ below_is_end n (omega (arith, l)) e g
    | inr g ↦ after_is_end n (omega (arith, l)) e g
  ]

  end_is_after : (e : End) (i : IsEnd w t s e) → Contains (ends_after w t s i.count) e
  end_is_after e i =
      to_flat_map (ends_at w (i.count + 1 == t)) (states_after w i.count s) e i.state (states_from_walk w i.count s i.state i.walk)
      (to_filter_map (end_of (i.count + 1 == t)) (moves w i.state.place i.state.header) e i.move i.made i.ends)

  later_has : (n k : ℕ) (e : End) → k < n → Contains (ends_after w t s k) e → Contains (ends_below w t s n) e
  later_has zero k e l h = absurd (omega (arith, l))
  later_has (suc n) k e l h = elim (cases_lt k n) [
    | inl g ↦ Contains-append_left (ends_below w t s n) (ends_after w t s n) e (later_has n k e g h)
    | inr g ↦ Contains-append_right (ends_below w t s n) (ends_after w t s n) e (let m : k ≡ n = omega (arith, l, g) in subst (λ (i : ℕ). Contains (ends_after w t s i) e) m h)
  ]

  pub end_from_ends : (e : End) → Contains (ends w t s) e → IsEnd w t s e
  end_from_ends e h = below_is_end t (omega arith) e h

  pub ends_from_end : (e : End) → IsEnd w t s e → Contains (ends w t s) e
  ends_from_end e i = later_has t i.count e i.within (end_is_after e i)

  pub ends_are_ends_of_walks : (e : End) → Contains (ends w t s) e ↔ IsEnd w t s e
  ends_are_ends_of_walks e = (end_from_ends e, ends_from_end e)

-- ---- labels

-- a list in order has what the list has
in_order_from : (xs : List Outcome) (o : Outcome) → Contains (in_order outcome_cmp xs) o → Contains xs o
in_order_from xs o h = Contains_from_has outcome_cmp total exact o xs (sym (in_order_has outcome_cmp total exact o xs) ∙ has_from_Contains outcome_cmp total exact o (in_order outcome_cmp xs) h)

in_order_to : (xs : List Outcome) (o : Outcome) → Contains xs o → Contains (in_order outcome_cmp xs) o
in_order_to xs o h = Contains_from_has outcome_cmp total exact o (in_order outcome_cmp xs) (in_order_has outcome_cmp total exact o xs ∙ has_from_Contains outcome_cmp total exact o xs h)

module _ (w : World) (t : ℕ) (p : Place) (h : Header) where
  pub end_from_label : (o : Outcome) → Contains (label w t p h) o → HasEnd w t p h o
  unfolding label
  end_from_label o c =
      let i = in_map (outcome_of h) (ends w t (state_at p h)) o (in_order_from (map (outcome_of h) (ends w t (state_at p h))) o c) in
      record { end = i.0; is = end_from_ends w t (state_at p h) i.0 i.1; outcome = i.2 }

  pub label_from_end : (o : Outcome) → HasEnd w t p h o → Contains (label w t p h) o
  unfolding label
  label_from_end o e =
      in_order_to (map (outcome_of h) (ends w t (state_at p h))) o
      (subst (Contains (map (outcome_of h) (ends w t (state_at p h)))) e.outcome (to_map (outcome_of h) (ends w t (state_at p h)) e.end (ends_from_end w t (state_at p h) e.end e.is)))

  pub label_sorted : IsStrictlySortedBy outcome_cmp (label w t p h)
  unfolding label
  label_sorted = in_order_sorted outcome_cmp total exact (map (outcome_of h) (ends w t (state_at p h)))

pub some_image : {A B : Type 0} (f : A → B) (xs : List A) → HasItem xs → map f xs ≡ [] → ⊥
some_image f [] h e = absurd h
some_image f (x ∷ xs) h e = cc

pub label_some : (w : World) (t : ℕ) (p : Place) (h : Header) → 1 ≤ t → label w t p h ≡ [] → ⊥
unfolding label
label_some w zero p h l = absurd (omega (arith, l))
label_some w (suc t) p h l =
    in_order_some outcome_cmp total exact (map (outcome_of h) (ends w (suc t) (state_at p h))) (some_image (outcome_of h) (ends w (suc t) (state_at p h)) (some_ends w t (state_at p h)))

-- a label is in order, without repeats, and never empty
pub label_is_label : (w : World) (t : ℕ) (p : Place) (h : Header) → 1 ≤ t → IsLabel (label w t p h)
label_is_label w t p h l = record { order = label_sorted w t p h; some = label_some w t p h l }
