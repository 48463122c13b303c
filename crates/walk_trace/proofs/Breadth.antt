-- The numbered states are found by breadth: each state that was found last gives its next states.
use Rattle.std.proofs.Common.{◌≡◌, inl, inr, ℕ, zero, suc, ◌+◌, ◌-◌, ◌≤◌, List, [], ◌++◌, length, drop, sym, ap, ◌∙◌, arith}
use Rattle.std.specs.Prelude.{Contains, flat_map, fold}
use Rattle.std.proofs.Math.Numerals.{add-one, sub-one}
use Rattle.std.proofs.lemmas.Grind.{common_steps, fold-append}
use Rattle.std.proofs.lemmas.List.Elements.{Contains-append_cases, Contains-append_left, Contains-append_right}
use Rattle.net_types.specs.declared.network.State.{State}
use Rattle.net_types.specs.World.{World}
use Rattle.net_types.proofs.Members.{in_none, to_flat_map}
use Rattle.walk_trace.specs.Numbered.{next_in_order, reached, reached_below, with_state, numbered}
use Rattle.walk_trace.proofs.Adding.{Closed, fresh, gained, joined, new_ones, only}

drop_front : (us vs : List State) → drop (length us) (us ++ vs) ≡ vs
drop_front us vs = grind (arith, common_steps)

module _ (w : World) (s : State) where
  closed_below : (n : ℕ) → Closed (next_in_order w) (reached_below w s n) (reached_below w s (suc n))
  closed_below zero u v h g = absurd (in_none u h)
  closed_below (suc n) u v h g = elim (Contains-append_cases (reached_below w s n) (reached w n s) u h) [
    | inl a ↦ Contains-append_left (reached_below w s (suc n)) (reached w (suc n) s) v (closed_below n u v a g)
    | inr a ↦ Contains-append_right (reached_below w s (suc n)) (reached w (suc n) s) v (to_flat_map (next_in_order w) (reached w n s) v u a g)
  ]

  -- what is numbered is reached, and what is reached is numbered
  pub reached_of : (n : ℕ) (u : State) → Contains (numbered w n s) u → Contains (reached_below w s n) u
  reached_of n u c = elim (only (reached_below w s n) [] u c) [ inl d ↦ absurd (in_none u d) | inr d ↦ d ]

  pub number_for : (n : ℕ) (u : State) → Contains (reached_below w s n) u → Contains (numbered w n s) u
  number_for n u c = gained (reached_below w s n) [] u c

  numbered_more : (n : ℕ) → numbered w (suc n) s ≡ fold with_state (numbered w n s) (reached w n s)
  numbered_more n = fold-append with_state [] (reached_below w s n) (reached w n s)

  closed : (n : ℕ) → Closed (next_in_order w) (numbered w n s) (numbered w (suc n) s)
  closed n u v c d = number_for (suc n) v (closed_below n u v (reached_of n u c) d)

  last_ones : (n : ℕ) → drop (length (numbered w n s)) (numbered w (suc n) s) ≡ new_ones (numbered w n s) (reached w n s)
  last_ones n =
      ap (drop (length (numbered w n s))) (numbered_more n ∙ joined (reached w n s) (numbered w n s))
      ∙ drop_front (numbered w n s) (new_ones (numbered w n s) (reached w n s))

  pub by_breadth : (n : ℕ) → numbered w (suc (suc n)) s ≡ fold with_state (numbered w (suc n) s) (flat_map (next_in_order w) (drop (length (numbered w n s)) (numbered w (suc n) s)))
  by_breadth n =
      numbered_more (suc n)
      ∙ fresh (next_in_order w) (reached w n s) (numbered w n s) (numbered w (suc n) s) (closed n)
      ∙ ap (λ l. fold with_state (numbered w (suc n) s) (flat_map (next_in_order w) l)) (sym (last_ones n))

  -- the same at a number of moves that isn't 0
  pub one_level_more : (n : ℕ) → 1 ≤ n → numbered w (n + 1) s ≡ fold with_state (numbered w n s) (flat_map (next_in_order w) (drop (length (numbered w (n - 1) s)) (numbered w n s)))
  one_level_more zero h = absurd (omega arith)
  one_level_more (suc n) h = rw (add-one, sub-one) (by_breadth n)

  pub two_levels : (n : ℕ) → numbered w (n + 2) s ≡ fold with_state (numbered w (n + 1) s) (flat_map (next_in_order w) (drop (length (numbered w n s)) (numbered w (n + 1) s)))
  two_levels n =
      let e : n + 2 ≡ suc (suc n) = omega arith in
      let d : n + 1 ≡ suc n = omega arith in
      rw (e, d) (by_breadth n)

  -- what a turn adds, where level has the states that were found last
  pub level_added : (n before : ℕ) (found level after : List State) → 1 ≤ n → found ≡ numbered w n s → before ≡ length (numbered w (n - 1) s) → level ≡ drop before found → after ≡ fold with_state found (flat_map (next_in_order w) level) → after ≡ numbered w (n + 1) s
  level_added n before found level after l f b v a =
      a
      ∙ ap (λ x. fold with_state found (flat_map (next_in_order w) x)) (v ∙ ap (λ (k : ℕ). drop k found) b)
      ∙ ap (λ us. fold with_state us (flat_map (next_in_order w) (drop (length (numbered w (n - 1) s)) us))) f
      ∙ sym (one_level_more n l)
