-- Tables of keys, of which each stands for an item.
use Rattle.std.proofs.Common.{◌≡◌, ℕ, zero, suc, Bool, true, false, not, true≢false, List, [], ◌∷◌, Some, map, slice_get, refl, sym, ap, ◌∙◌}
use Rattle.std.specs.Prelude.{option_map, Decides}
use Rattle.std.specs.List.{IsDistinct, AllByRecursion}
use Rattle.std.proofs.lemmas.Option.{slice_get-map}
use Rattle.report_groups.specs.Groups.{AreDistinct}

module _ {K A : Type 0} (f : K → A) (e : K → K → Bool) (decides : (k l : K) → Decides (e k l) (f k ≡ f l)) where
  -- where the key stands, its item stands
  pub item_at : (ks : List K) (n : ℕ) (k : K) (a : A) → slice_get ks n ≡ Some k → f k ≡ a → slice_get (map f ks) n ≡ Some a
  item_at ks n k a s g = slice_get-map f ks n ∙ ap (option_map f) s ∙ ap Some g

  -- an item that equals no later key's isn't among them
  not_later : (k : K) (ks : List K) → AllByRecursion (λ l. e k l ≡ false) ks → (j : ℕ) → slice_get (map f ks) j ≡ Some (f k) → ⊥
  not_later k [] h j g = absurd cc
  not_later k (l ∷ ls) h zero g = true≢false (sym ((decides k l).1 cc) ∙ h.0)
  not_later k (l ∷ ls) h (suc j) g = not_later k ls h.1 j g

  apart : (ks : List K) → IsDistinct e ks → (i j : ℕ) (x : A) → slice_get (map f ks) i ≡ Some x → slice_get (map f ks) j ≡ Some x → i ≡ j
  unfolding IsDistinct
  apart [] d i j x p q = absurd cc
  apart (k ∷ ks) d zero zero x p q = refl
  apart (k ∷ ks) d zero (suc j) x p q = absurd (not_later k ks d.0 j (q ∙ sym p))
  apart (k ∷ ks) d (suc i) zero x p q = absurd (not_later k ks d.0 i (p ∙ sym q))
  apart (k ∷ ks) d (suc i) (suc j) x p q = ap suc (apart ks d.1 i j x p q)

  pub distinct_items : (ks : List K) → IsDistinct e ks → AreDistinct (map f ks)
  distinct_items ks d = record { apart = apart ks d }

pub taken_twice : (a b : Bool) → a ≡ not b → a ≡ false → b ≡ true
taken_twice a true h e = refl
taken_twice a false h e = absurd (true≢false (sym h ∙ e))
