-- Walks that go round in circles: whatever follows a number of moves follows any other that leads to the same states.
use Rattle.std.proofs.Common.{ℕ, zero, suc, ◌≡◌, ◌≤◌, ◌<◌, ◌+◌, ◌-◌, ◌*◌, ◌/◌, ◌%◌, ◌⊎◌, inl, inr, false, ◌==◌, List, map, refl, sym, ◌∙◌, subst, arith}
use Rattle.std.specs.Prelude.{Contains}
use Rattle.std.proofs.lemmas.Bool.Decides.{nat_tests}
use Rattle.std.proofs.Math.Nat.{mod-lt}
use Rattle.std.proofs.lemmas.Bool.{cases_lt}
use Rattle.std.proofs.lemmas.Nat.{div-add-mod'}
use Rattle.std.proofs.lemmas.List.Elements.{Contains-append_cases, Contains-append_right}
use Rattle.cube_diagram.specs.Functions.{Functions}
use Rattle.net_types.specs.declared.network.Place.{Place}
use Rattle.net_types.specs.declared.network.State.{State}
use Rattle.net_types.specs.World.{World}
use Rattle.net_types.specs.Walks.{End, states_after, next_states, state_at, ends_at, ends_after, ends_below, outcome_of}
use Rattle.net_types.proofs.Members.{in_map, to_map, in_flat_map, to_flat_map}
use Rattle.set_walk.specs.declared.step.Way.{Way}
use Rattle.set_walk.specs.declared.ends.OutcomeSet.{OutcomeSet}
use Rattle.set_walk.specs.declared.circles.Mark.{Mark}
use Rattle.set_walk.specs.Levels.{IsLevel}
use Rattle.set_walk.specs.Circles.{SameStates, AllSame, IsRound}
use Rattle.set_walk.specs.Outcomes.{AreEndsOf}
use Rattle.set_walk.proofs.WalkLemmas.{last_or_before, more_ends}

not_last : (n t : ℕ) → n + 1 < t → (n + 1 == t) ≡ false
not_last n t l = search (nat_tests, arith)

module _ (w : World) (s : State) where
  -- ---- what follows the one follows the other
  same_suc : (n m : ℕ) → SameStates w s n m → SameStates w s (suc n) (suc m)
  same_suc n m e u = (
    λ c. let i = in_flat_map (next_states w) (states_after w n s) u c in to_flat_map (next_states w) (states_after w m s) u i.0 ((e i.0).0 i.1) i.2,
    λ c. let i = in_flat_map (next_states w) (states_after w m s) u c in to_flat_map (next_states w) (states_after w n s) u i.0 ((e i.0).1 i.1) i.2,
  )

  same_at : (n m a b : ℕ) → n ≡ a → m ≡ b → SameStates w s n m → SameStates w s a b
  same_at n m a b e d same = subst (λ k. SameStates w s k b) e (subst (λ k. SameStates w s n k) d same)

  pub same_on : (k n m a b : ℕ) → a ≡ n + k → b ≡ m + k → SameStates w s n m → SameStates w s a b
  same_on zero n m a b e d same = same_at n m a b (omega (arith, e)) (omega (arith, d)) same
  same_on (suc k) n m a b e d same = same_at (suc (n + k)) (suc (m + k)) a b (omega (arith, e)) (omega (arith, d)) (same_suc (n + k) (m + k) (same_on k n m (n + k) (m + k) refl refl same))

  same_self : (n : ℕ) → SameStates w s n n
  same_self n u = (λ c. c, λ c. c)

  same_then : (n m k : ℕ) → SameStates w s n m → SameStates w s m k → SameStates w s n k
  same_then n m k a b u = (λ c. (b u).0 ((a u).0 c), λ c. (a u).1 ((b u).1 c))

  -- ---- whole rounds
  same_rounds : (k n m q x : ℕ) → n ≡ m + q → x ≡ n + k * q → SameStates w s m n → SameStates w s n x
  same_rounds zero n m q x d e same = same_at n n n x refl (omega (arith, e)) (same_self n)
  same_rounds (suc k) n m q x d e same =
      let y = n + k * q in
      same_then n y x (same_rounds k n m q y d refl same) (same_on (q + k * q) m n y x (omega (arith, d)) (omega (arith, e)) same)

  -- ---- states and ends
  pub fewer_states : (n m bound y : ℕ) → m < n → SameStates w s m n → y ≤ bound → (u : State) → Contains (states_after w y s) u → (k : ℕ) × (k < n) × Contains (states_after w k s) u
  fewer_states n m zero y l same b u c = (y, omega (arith, l, b), c)
  fewer_states n m (suc bound) y l same b u c = elim (cases_lt y n) [
    | inl d ↦ (y, d, c)
    | inr d ↦
        let z = m + (y - n) in
        fewer_states n m bound z l same (omega (arith, l, b, d)) u ((same_on (y - n) m n z y refl (omega (arith, d)) same u).1 c)
  ]

  fewer_ends : (t n m y : ℕ) → m < n → n ≤ y → y < t → SameStates w s m n → (e : End) → Contains (ends_below w t s y) e → Contains (ends_below w t s n) e
  fewer_ends t n m zero l b below same e c = absurd (omega (arith, l, b))
  fewer_ends t n m (suc y) l b below same e c =
      elim (last_or_before n y b) [
        | inl q ↦ subst (λ k. Contains (ends_below w t s k) e) (sym q) c
        | inr before ↦
            let room : y < t = omega (arith, below) in
            elim (Contains-append_cases (ends_below w t s y) (ends_after w t s y) e c) [
              | inl d ↦ fewer_ends t n m y l before room same e d
              | inr d ↦
                  let z = m + (y - n) in
                  let i = in_flat_map (ends_at w (y + 1 == t)) (states_after w y s) e d in
                  let was = (same_on (y - n) m n z y refl (omega (arith, before)) same i.0).1 i.1 in
                  let not : (y + 1 == t) ≡ (z + 1 == t) = not_last y t (omega (arith, below)) ∙ sym (not_last z t (omega (arith, l, before, below))) in
                  let first = to_flat_map (ends_at w (z + 1 == t)) (states_after w z s) e i.0 was (subst (λ a. Contains (ends_at w a i.0) e) not i.2) in
                  fewer_ends t n m y l before room same e (more_ends w s t (suc z) y (omega (arith, l, before)) e (Contains-append_right (ends_below w t s z) (ends_after w t s z) e first))
            ]
      ]

-- ---- levels
pub levels_same : (w : World) (start f : Functions) (domain : ℕ) (p : Place) (n m : ℕ) (groups : List Way) → IsLevel w start domain p n f groups → IsLevel w start domain p m f groups → AllSame w start domain p n m
levels_same w start f domain p n m groups a b h v i u = (
  λ c. ((b.exact h v u).0 ((a.exact h v u).1 (i, c))).1,
  λ c. ((a.exact h v u).0 ((b.exact h v u).1 (i, c))).1,
)

-- what follows the one level follows the other
pub levels_repeat : (w : World) (start f : Functions) (domain : ℕ) (p : Place) (n m : ℕ) (groups : List Way) → IsLevel w start domain p n f groups → IsLevel w start domain p m f groups → (k : ℕ) → AllSame w start domain p (n + k) (m + k)
levels_repeat w start f domain p n m groups a b k h v i = same_on w (state_at p h) k n m (n + k) (m + k) refl refl (levels_same w start f domain p n m groups a b h v i)

pub level_on : (w : World) (start f : Functions) (domain : ℕ) (p : Place) (n m : ℕ) (groups : List Way) → AllSame w start domain p n m → IsLevel w start domain p n f groups → IsLevel w start domain p m f groups
level_on w start f domain p n m groups same l =
    record {
      told = l.told;
      exact = λ h v u. (
        λ x. let y = (l.exact h v u).0 x in (y.0, (same h v y.0 u).0 y.1),
        λ y. (l.exact h v u).1 (y.0, (same h v y.0 u).1 y.1),
      );
    }

ends_on : (w : World) (start f : Functions) (domain : ℕ) (p : Place) (t m n x : ℕ) (a : List OutcomeSet) → m < n → n ≤ x → x < t → AllSame w start domain p m n → AreEndsOf w start domain p t n f a → AreEndsOf w start domain p t x f a
ends_on w start f domain p t m n x a l b below same all =
    record {
      below = all.below;
      exact = λ h v o.
          let s = state_at p h in (
            λ y.
                let z = (all.exact h v o).0 y in
                let i = in_map (outcome_of h) (ends_below w t s n) o z.1 in
                (z.0, subst (λ r. Contains (map (outcome_of h) (ends_below w t s x)) r) i.2 (to_map (outcome_of h) (ends_below w t s x) i.0 (more_ends w s t n x b i.0 i.1))),
            λ y.
                let i = in_map (outcome_of h) (ends_below w t s x) o y.1 in
                (all.exact h v o).1 (y.0, subst (λ r. Contains (map (outcome_of h) (ends_below w t s n)) r) i.2 (to_map (outcome_of h) (ends_below w t s n) i.0 (fewer_ends w s t n m x l b below (same h v y.0) i.0 i.1))),
          );
    }

-- ---- where the walks go on
module _ (w : World) (start f : Functions) (domain : ℕ) (p : Place) (t n x : ℕ) (mark : Mark) (groups : List Way) where
  rounds_same : mark.moves < n → IsRound mark n groups t x → IsLevel w start domain p mark.moves f mark.groups.items → IsLevel w start domain p n f groups → AllSame w start domain p n x
  rounds_same l r a b h v i =
      same_rounds w (state_at p h) r.count n mark.moves (n - mark.moves) x (omega (arith, l)) r.is (levels_same w start f domain p mark.moves n groups (subst (λ gs. IsLevel w start domain p mark.moves f gs) r.same a) b h v i)

  pub level_onward : mark.moves < n → (x ≡ n) ⊎ IsRound mark n groups t x → IsLevel w start domain p mark.moves f mark.groups.items → IsLevel w start domain p n f groups → IsLevel w start domain p x f groups
  level_onward l r a b = elim r [
    | inl e ↦ subst (λ k. IsLevel w start domain p k f groups) (sym e) b
    | inr r ↦ level_on w start f domain p n x groups (rounds_same l r a b) b
  ]

  pub ends_onward : (ends : List OutcomeSet) → mark.moves < n → n ≤ x → (x ≡ n) ⊎ IsRound mark n groups t x → IsLevel w start domain p mark.moves f mark.groups.items → IsLevel w start domain p n f groups → AreEndsOf w start domain p t n f ends → AreEndsOf w start domain p t x f ends
  ends_onward ends l b r a c all = elim r [
    | inl e ↦ subst (λ k. AreEndsOf w start domain p t k f ends) (sym e) all
    | inr r ↦ ends_on w start f domain p t mark.moves n x ends l b r.below (levels_same w start f domain p mark.moves n groups (subst (λ gs. IsLevel w start domain p mark.moves f gs) r.same a) c) all
  ]

-- ---- the level that is kept
-- it is the one level or the other
module _ (n : ℕ) (mark r : Mark) (groups : List Way) where
  abbrev pub IsLater : Type 0
  IsLater = (r ≡ mark) ⊎ ((r.moves ≡ n) × (r.groups.items ≡ groups))

  pub is_later : (n / 2 < mark.moves → r ≡ mark) → (mark.moves ≤ n / 2 → r.moves ≡ n) → (mark.moves ≤ n / 2 → r.groups.items ≡ groups) → IsLater
  is_later kept moves same = elim (cases_lt (n / 2) mark.moves) [ inl l ↦ inl (kept l) | inr l ↦ inr (moves l, same l) ]

  pub later_level : (w : World) (start f : Functions) (domain : ℕ) (p : Place) → IsLater → IsLevel w start domain p mark.moves f mark.groups.items → IsLevel w start domain p n f groups → IsLevel w start domain p r.moves f r.groups.items
  later_level w start f domain p e a b = elim e [
    | inl d ↦ subst (λ (k : Mark). IsLevel w start domain p k.moves f k.groups.items) (sym d) a
    | inr d ↦ subst (λ k. IsLevel w start domain p k f r.groups.items) (sym d.0) (subst (λ gs. IsLevel w start domain p n f gs) (sym d.1) b)
  ]

  pub later_moves : IsLater → mark.moves ≤ n → r.moves ≤ n
  later_moves e l = elim e [
    | inl d ↦ subst (λ (k : Mark). k.moves ≤ n) (sym d) l
    | inr d ↦ omega (arith, d.0)
  ]

-- ---- the last whole round
round_left : (last n x y : ℕ) → n ≤ last → x + y ≡ last - n → last - y ≡ n + x
round_left last n x y l e = omega (arith, l, e)

pub last_round : (m n t : ℕ) → n < t → (k : ℕ) × (t - 1 - (t - 1 - n) % (n - m) ≡ n + k * (n - m))
last_round m n t l = ((t - 1 - n) / (n - m), round_left (t - 1) n ((t - 1 - n) / (n - m) * (n - m)) ((t - 1 - n) % (n - m)) (omega (arith, l)) (div-add-mod' (t - 1 - n) (n - m)))

pub last_left : (m n t : ℕ) → m < n → n < t → t ≤ t - 1 - (t - 1 - n) % (n - m) + (n - m)
last_left m n t b l =
    let y : (t - 1 - n) % (n - m) < n - m = mod-lt (t - 1 - n) (omega (arith, b)) in
    omega (arith, y, b, l)
