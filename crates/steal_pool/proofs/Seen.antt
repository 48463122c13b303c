-- What a step means for the seat that contracts see.
use Rattle.std.proofs.Common.{◌≡◌, ◌<◌, ◌⊎◌, inl, inr, ℕ, [], ◌∷◌, ◌++◌, refl, ap, arith}
use Rattle.std.specs.Prelude.{Option, MatchOption, IfNone}
use Rattle.std.specs.declared.option.Option.TheVariants.{None, Some}
use Rattle.std.specs.declared.alloc.Global.{Global}
use Rattle.atomic_blocks.specs.Lent.{RowsId}
use Rattle.crossbeam_deque.specs.Steals.{MatchSteal}
use Rattle.crossbeam_deque.specs.declared.steal.Steal.{Steal}
use Rattle.crossbeam_deque.specs.declared.steal.Steal.TheVariants.{Empty, Success, Retry}
use Rattle.steal_pool.specs.declared.rule.Task.{Task}
use Rattle.steal_pool.specs.declared.rule.View.{View}
use Rattle.steal_pool.specs.Paths.{total, MakeWhole}
use Rattle.steal_pool.specs.Lane.{TakesFirst, WasEmpty, Gathers}
use Rattle.steal_pool.specs.Seats.{owner_of, thief_of, Takes, Finds}

pub took : (lane after : RowsId × Global) → after ≡ lane → (capacity : ℕ) (v w : View) (r : Option Task) → MatchOption r ((w ≡ v) × (WasEmpty v × Gathers v [])) (λ t. TakesFirst v (t ∷ []) w)
    → MatchOption r ((owner_of after capacity w ≡ owner_of lane capacity v) × Finds v.taken) (λ t. (owner_of after capacity w ≡ record (owner_of lane capacity v) { taken = v.taken ++ t ∷ [] }) × Takes v.taken t)
took lane after same capacity v w None m = (λ i. owner_of (same i) capacity (m.0 i), (v, refl, m.1.0))
took lane after same capacity v w (Some t) m = (λ i. owner_of (same i) capacity (m.6 i), (v, w, refl, m))

pub drained : (v w : View) (r : Option Task) → MatchOption r ((w ≡ v) × (WasEmpty v × Gathers v [])) (λ t. TakesFirst v (t ∷ []) w) → IfNone r (MakeWhole v.paths → (h : Task → ℕ) → total h v.pushed ≡ total h v.taken)
drained v w None m = λ all h. let e = m.1.1 all h in omega (arith, e)
drained v w (Some t) m = tt

pub stole : (lane : RowsId × Global) (k m n : ℕ) (v w : View) (r : Steal Task) → MatchSteal r ((w ≡ v) × WasEmpty v) ((w ≡ v) × ((m < n) ⊎ WasEmpty v)) (λ t. TakesFirst v (t ∷ []) w)
    → MatchSteal r ((thief_of lane k n w ≡ thief_of lane k n v) × Finds v.taken) ((thief_of lane k n w ≡ thief_of lane k n v) × ((m < n) ⊎ Finds v.taken)) (λ t. (thief_of lane k n w ≡ record (thief_of lane k n v) { taken = v.taken ++ t ∷ [] }) × Takes v.taken t)
stole lane k m n v w Empty now = (ap (thief_of lane k n) now.0, (v, refl, now.1))
stole lane k m n v w (Success t) now = (ap (thief_of lane k n) now.6, (v, w, refl, now))
stole lane k m n v w Retry now = (ap (thief_of lane k n) now.0, elim now.1 [ inl later ↦ inl later | inr empty ↦ inr (v, refl, empty) ])

pub kept : (v w : View) (late : Type 0) (r : Steal Task) → MatchSteal r ((w ≡ v) × WasEmpty v) ((w ≡ v) × late) (λ t. TakesFirst v (t ∷ []) w) → w.paths ≡ v.paths
kept v w late Empty m = ap (λ (y : View). y.paths) m.0
kept v w late (Success t) m = ap (λ (y : View). y.paths) m.6
kept v w late Retry m = ap (λ (y : View). y.paths) m.0
