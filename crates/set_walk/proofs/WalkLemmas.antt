-- All walks of a domain: from one number of moves to the next, and the label.
use Rattle.std.proofs.Common.{ℕ, zero, suc, ◌≡◌, ◌≤◌, ◌+◌, ◌⊎◌, ◌↔◌, inl, inr, Bool, ◌==◌, List, [], ◌∷◌, ◌++◌, map, length, refl, sym, ◌∙◌, subst, arith}
use Rattle.std.proofs.Math.Numerals.{add-one}
use Rattle.std.proofs.Math.Nat.{eq-or-lt_of_le}
use Rattle.std.specs.Prelude.{Contains}
use Rattle.std.proofs.lemmas.List.Elements.{Contains-append_cases, Contains-append_left, Contains-append_right}
use Rattle.hdr_bits.specs.declared.header.Header.{Header}
use Rattle.hdr_bits.specs.HeaderBits.{IsHeader}
use Rattle.cube_diagram.specs.Functions.{Functions, Keeps}
use Rattle.net_types.specs.declared.label.Outcome.{Outcome}
use Rattle.net_types.specs.declared.network.Move.TheVariants.{Go}
use Rattle.net_types.specs.declared.network.Place.{Place}
use Rattle.net_types.specs.declared.network.State.{State}
use Rattle.net_types.specs.World.{World}
use Rattle.net_types.specs.Moves.{moves}
use Rattle.net_types.specs.Walks.{End, states_after, next_states, state_at, ends_at, ends_after, ends_below, ends, end_of, outcome_of, label}
use Rattle.net_types.specs.Order.{in_order, outcome_cmp}
use Rattle.net_types.proofs.Ordered.{Contains_from_has, has_from_Contains, in_order_has}
use Rattle.net_types.proofs.Outcomes.{total, exact}
use Rattle.net_types.proofs.Members.{in_none, in_map, to_map, in_flat_map, to_flat_map, in_filter_map, to_filter_map}
use Rattle.set_walk.specs.declared.step.Way.{Way}
use Rattle.set_walk.specs.declared.ends.OutcomeSet.{OutcomeSet}
use Rattle.set_walk.specs.Sets.{InSet}
use Rattle.set_walk.specs.Ways.{HasMove}
use Rattle.set_walk.specs.Levels.{IsLevel, AreSteps}
use Rattle.set_walk.specs.Outcomes.{AddsOutcomes, EndsBy, AreEndsOf, AreLabels}
use Rattle.set_walk.proofs.ToldLemmas.{move_none, told_kept, kept_move, told_below}
use Rattle.set_walk.proofs.EndLemmas.{kept_outcome}

-- ---- the ends of one number of moves
module _ (w : World) (start f : Functions) (domain : ℕ) (p : Place) (t n : ℕ) (steps : List Way) where
  pub ends_of_steps : AreSteps w start domain p n f steps → (h : Header) → IsHeader h → (o : Outcome) → EndsBy f (n + 1 == t) steps h o ↔ (InSet start domain h × Contains (map (outcome_of h) (ends_after w t (state_at p h) n)) o)
  ends_of_steps a h v o = (
    λ u.
        let x = (a.exact h v u.move).0 u.made in
        let q = x.1 in
        let es = ends_after w t (state_at p h) n in
        (x.0, subst (λ z. Contains (map (outcome_of h) es) z) u.outcome (to_map (outcome_of h) es u.end (to_flat_map (ends_at w (n + 1 == t)) (states_after w n (state_at p h)) u.end q.state q.walk (to_filter_map (end_of (n + 1 == t)) (moves w q.state.place q.state.header) u.end u.move q.made u.ends)))),
    λ u.
        let i = in_map (outcome_of h) (ends_after w t (state_at p h) n) o u.1 in
        let j = in_flat_map (ends_at w (n + 1 == t)) (states_after w n (state_at p h)) i.0 i.1 in
        let k = in_filter_map (end_of (n + 1 == t)) (moves w j.0.place j.0.header) i.0 j.2 in
        record {
          move = k.0;
          made = (a.exact h v k.0).1 (u.0, record { state = j.0; walk = j.1; made = k.1 });
          end = i.0;
          ends = k.2;
          outcome = i.2;
        },
  )

-- ---- outcomes of two lists
in_both : (f : End → Outcome) (xs ys : List End) (o : Outcome) → Contains (map f (xs ++ ys)) o ↔ (Contains (map f xs) o ⊎ Contains (map f ys) o)
in_both f xs ys o = (
  λ c. let i = in_map f (xs ++ ys) o c in elim (Contains-append_cases xs ys i.0 i.1) [
    | inl d ↦ inl (subst (λ z. Contains (map f xs) z) i.2 (to_map f xs i.0 d))
    | inr d ↦ inr (subst (λ z. Contains (map f ys) z) i.2 (to_map f ys i.0 d))
  ],
  λ c. elim c [
    | inl d ↦ let i = in_map f xs o d in subst (λ z. Contains (map f (xs ++ ys)) z) i.2 (to_map f (xs ++ ys) i.0 (Contains-append_left xs ys i.0 i.1))
    | inr d ↦ let i = in_map f ys o d in subst (λ z. Contains (map f (xs ++ ys)) z) i.2 (to_map f (xs ++ ys) i.0 (Contains-append_right xs ys i.0 i.1))
  ],
)

ends_suc : (w : World) (start f0 f1 f2 : Functions) (domain : ℕ) (p : Place) (t n : ℕ) (steps : List Way) (a b : List OutcomeSet) → Keeps f0 f1 → AreEndsOf w start domain p t n f0 a → AreSteps w start domain p n f1 steps → AddsOutcomes f1 f2 (EndsBy f1 (n + 1 == t) steps) a b → AreEndsOf w start domain p t (suc n) f2 b
ends_suc w start f0 f1 f2 domain p t n steps a b k old made add =
    record {
      below = add.told;
      exact = λ h v o.
          let s = state_at p h in
          let kept = kept_outcome f0 f1 a h o k old.below in
          let new = ends_of_steps w start f1 domain p t n steps made h v o in
          let both = in_both (outcome_of h) (ends_below w t s n) (ends_after w t s n) o in (
            λ x. elim ((add.exact h v o).0 x) [
              | inl y ↦ let z = (old.exact h v o).0 (kept.0 y) in (z.0, both.1 (inl z.1))
              | inr y ↦ let z = new.0 y in (z.0, both.1 (inr z.1))
            ],
            λ x. elim (both.0 x.1) [
              | inl y ↦ (add.exact h v o).1 (inl (kept.1 ((old.exact h v o).1 (x.0, y))))
              | inr y ↦ (add.exact h v o).1 (inr (new.1 (x.0, y)))
            ],
          );
    }

pub ends_next : (w : World) (start f0 f1 f2 : Functions) (domain : ℕ) (p : Place) (t n : ℕ) (last : Bool) (steps : List Way) (a b : List OutcomeSet) → Keeps f0 f1 → last ≡ (n + 1 == t) → AreEndsOf w start domain p t n f0 a → AreSteps w start domain p n f1 steps → AddsOutcomes f1 f2 (EndsBy f1 last steps) a b → AreEndsOf w start domain p t (n + 1) f2 b
ends_next w start f0 f1 f2 domain p t n last steps a b k e old made add =
    rw add-one (ends_suc w start f0 f1 f2 domain p t n steps a b k old made (subst (λ z. AddsOutcomes f1 f2 (EndsBy f1 z steps) a b) e add))

pub ends_first : (w : World) (start : Functions) (domain : ℕ) (p : Place) (t : ℕ) → AreEndsOf w start domain p t 0 start []
ends_first w start domain p t =
    record {
      below = λ x c. absurd (in_none x c);
      exact = λ h v o. (λ x. absurd (in_none x.end x.among), λ x. absurd (in_none o x.1));
    }

-- ---- the label
in_label : (xs : List Outcome) (o : Outcome) → Contains (in_order outcome_cmp xs) o ↔ Contains xs o
in_label xs q = (
  λ h. Contains_from_has outcome_cmp total exact q xs (sym (in_order_has outcome_cmp total exact q xs) ∙ has_from_Contains outcome_cmp total exact q (in_order outcome_cmp xs) h),
  λ h. Contains_from_has outcome_cmp total exact q (in_order outcome_cmp xs) (in_order_has outcome_cmp total exact q xs ∙ has_from_Contains outcome_cmp total exact q xs h),
)

pub labels_are : (w : World) (start f : Functions) (domain : ℕ) (p : Place) (t : ℕ) (a : List OutcomeSet) → AreEndsOf w start domain p t t f a → AreLabels w start domain p t f a
unfolding label
labels_are w start f domain p t a all =
    record {
      below = all.below;
      exact = λ h v o. let l = in_label (map (outcome_of h) (ends w t (state_at p h))) o in (
        λ x. let y = (all.exact h v o).0 x in (y.0, l.1 y.1),
        λ x. (all.exact h v o).1 (x.0, l.0 x.1),
      );
    }

-- ---- no group is left
pub last_or_before : (n m : ℕ) → n ≤ suc m → (n ≡ suc m) ⊎ (n ≤ m)
last_or_before n m l = elim (eq-or-lt_of_le l) [ inl e ↦ inl e | inr b ↦ inr (omega (arith, b)) ]

pub no_state : (w : World) (s : State) (n m : ℕ) → n ≤ m → ((u : State) → Contains (states_after w n s) u → ⊥) → (u : State) → Contains (states_after w m s) u → ⊥
no_state w s n zero l none u c = let e : n ≡ 0 = omega (arith, l) in none u (subst (λ k. Contains (states_after w k s) u) (sym e) c)
no_state w s n (suc m) l none u c =
    elim (last_or_before n m l) [
      | inl e ↦ none u (subst (λ k. Contains (states_after w k s) u) (sym e) c)
      | inr before ↦ let i = in_flat_map (next_states w) (states_after w m s) u c in no_state w s n m before none i.0 i.1
    ]

same_ends : (w : World) (s : State) (t n m : ℕ) → n ≤ m → ((u : State) → Contains (states_after w n s) u → ⊥) → (e : End) → Contains (ends_below w t s m) e → Contains (ends_below w t s n) e
same_ends w s t n zero l none e c = let q : n ≡ 0 = omega (arith, l) in subst (λ k. Contains (ends_below w t s k) e) (sym q) c
same_ends w s t n (suc m) l none e c =
    elim (last_or_before n m l) [
      | inl q ↦ subst (λ k. Contains (ends_below w t s k) e) (sym q) c
      | inr before ↦ elim (Contains-append_cases (ends_below w t s m) (ends_after w t s m) e c) [
        | inl d ↦ same_ends w s t n m before none e d
        | inr d ↦ let i = in_flat_map (ends_at w (m + 1 == t)) (states_after w m s) e d in absurd (no_state w s n m before none i.0 i.1)
      ]
    ]

pub more_ends : (w : World) (s : State) (t n m : ℕ) → n ≤ m → (e : End) → Contains (ends_below w t s n) e → Contains (ends_below w t s m) e
more_ends w s t n zero l e c = let q : n ≡ 0 = omega (arith, l) in subst (λ k. Contains (ends_below w t s k) e) q c
more_ends w s t n (suc m) l e c =
    elim (last_or_before n m l) [
      | inl q ↦ subst (λ k. Contains (ends_below w t s k) e) q c
      | inr before ↦ Contains-append_left (ends_below w t s m) (ends_after w t s m) e (more_ends w s t n m before e c)
    ]

pub ends_left : (w : World) (start f : Functions) (domain : ℕ) (p : Place) (t n m : ℕ) (groups : List Way) (a : List OutcomeSet) → n ≤ m → groups ≡ [] → IsLevel w start domain p n f groups → AreEndsOf w start domain p t n f a → AreEndsOf w start domain p t m f a
ends_left w start f domain p t n m groups a l empty level all =
    record {
      below = all.below;
      exact = λ h v o.
          let s = state_at p h in (
            λ x.
                let y = (all.exact h v o).0 x in
                let i = in_map (outcome_of h) (ends_below w t s n) o y.1 in
                (y.0, subst (λ z. Contains (map (outcome_of h) (ends_below w t s m)) z) i.2 (to_map (outcome_of h) (ends_below w t s m) i.0 (more_ends w s t n m l i.0 i.1))),
            λ x.
                let none : (u : State) → Contains (states_after w n s) u → ⊥ = λ u c. move_none f h (Go u.place u.header) (subst (λ gs. HasMove f gs h (Go u.place u.header)) empty ((level.exact h v u).1 (x.0, c))) in
                let i = in_map (outcome_of h) (ends_below w t s m) o x.1 in
                (all.exact h v o).1 (x.0, subst (λ z. Contains (map (outcome_of h) (ends_below w t s n)) z) i.2 (to_map (outcome_of h) (ends_below w t s n) i.0 (same_ends w s t n m l none i.0 i.1))),
          );
    }

no_items : {A : Type 0} (xs : List A) → length xs ≡ 0 → xs ≡ []
no_items [] e = refl
no_items (x ∷ xs) e = absurd (omega (arith, e))

-- the labels, where no group is left before the last move
pub labels_early : (w : World) (start f : Functions) (domain : ℕ) (p : Place) (t n : ℕ) (groups : List Way) (a : List OutcomeSet) → n ≤ t → length groups ≡ 0 → IsLevel w start domain p n f groups → AreEndsOf w start domain p t n f a → AreLabels w start domain p t f a
labels_early w start f domain p t n groups a l empty level all = labels_are w start f domain p t a (ends_left w start f domain p t n t groups a l (no_items groups empty) level all)

-- and at the last move
pub labels_last : (w : World) (start f : Functions) (domain : ℕ) (p : Place) (t n : ℕ) (a : List OutcomeSet) → n ≡ t → AreEndsOf w start domain p t n f a → AreLabels w start domain p t f a
labels_last w start f domain p t n a e all = labels_are w start f domain p t a (subst (λ k. AreEndsOf w start domain p t k f a) e all)

-- ---- the table grows
pub level_kept : (w : World) (start f g : Functions) (domain : ℕ) (p : Place) (n : ℕ) (groups : List Way) → Keeps f g → IsLevel w start domain p n f groups → IsLevel w start domain p n g groups
level_kept w start f g domain p n groups k l =
    record {
      told = told_kept f g groups k l.told;
      exact = λ h v u. let q = kept_move f g groups h (Go u.place u.header) k (told_below f groups l.told) in (λ x. (l.exact h v u).0 (q.0 x), λ x. q.1 ((l.exact h v u).1 x));
    }
