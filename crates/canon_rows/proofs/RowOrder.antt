use Rattle.std.proofs.Common.{ℕ, zero, suc, ◌+◌, ◌^◌, ◌<◌, ◌≡◌, inl, inr, Bool, true, false, List, [], ◌∷◌, ◌++◌, map, Option, Some, None, refl, sym, ap, ◌∙◌, subst, arith}
use Rattle.std.specs.Int.{bit_at}
use Rattle.std.proofs.lemmas.Nat.Bits.{bit_at_above}
use Rattle.canon_rows.specs.Pieces.{with_top}
use Rattle.canon_rows.specs.PlainRows.{Plain, with_zero, with_one, point, IsRowsOf, IsWellFormed, Each}
use Rattle.canon_rows.proofs.RowRecursion.{rows_well_formed, Each-append, Each-map}
use Rattle.canon_rows.proofs.TopBits.{bit_below, bit_top, by_shift}
use Rattle.canon_rows.proofs.RowLists.{with_digit}

-- at the highest position where the two differ, the first has the digit 0 and the second 1
pub record Before (w : ℕ) (t u : Plain) : Type 0 where
  pub position : ℕ
  pub within : position < w
  pub same_fixed : (i : ℕ) → i < w → position < i → bit_at t.fixed i ≡ bit_at u.fixed i
  pub same_bits : (i : ℕ) → i < w → position < i → bit_at t.bits i ≡ bit_at u.bits i
  pub digits : (bit_at t.fixed position ≡ 1) × (bit_at u.fixed position ≡ 1)
  pub zero_one : (bit_at t.bits position ≡ 0) × (bit_at u.bits position ≡ 1)

before_star : (m : ℕ) (t u : Plain) → IsWellFormed m t → IsWellFormed m u → Before m t u → Before (suc m) t u
before_star m t u a b h =
    record {
      position = h.position;
      within = omega arith;
      same_fixed = by_shift m (λ i. h.position < i → bit_at t.fixed i ≡ bit_at u.fixed i) (λ _. bit_at_above t.fixed m m a.below (omega arith) ∙ sym (bit_at_above u.fixed m m b.below (omega arith))) h.same_fixed;
      same_bits = by_shift m (λ i. h.position < i → bit_at t.bits i ≡ bit_at u.bits i) (λ _. bit_at_above t.bits m m a.small (omega arith) ∙ sym (bit_at_above u.bits m m b.small (omega arith))) h.same_bits;
      digits = h.digits;
      zero_one = h.zero_one;
    }

before_digit : (c : Bool) (m : ℕ) (t u : Plain) → IsWellFormed m t → IsWellFormed m u → Before m t u → Before (suc m) (with_digit c m t) (with_digit c m u)
before_digit c m t u a b h =
    let p = h.position in
    let l = h.within in
    record {
      position = p;
      within = omega arith;
      same_fixed = by_shift m (λ i. p < i → bit_at (with_top true m t.fixed) i ≡ bit_at (with_top true m u.fixed) i) (λ _. bit_top true m t.fixed a.below ∙ sym (bit_top true m u.fixed b.below)) (λ i k q. bit_below true m t.fixed i k ∙ (h.same_fixed i k q ∙ sym (bit_below true m u.fixed i k)));
      same_bits = by_shift m (λ i. p < i → bit_at (with_top c m t.bits) i ≡ bit_at (with_top c m u.bits) i) (λ _. bit_top c m t.bits a.small ∙ sym (bit_top c m u.bits b.small)) (λ i k q. bit_below c m t.bits i k ∙ (h.same_bits i k q ∙ sym (bit_below c m u.bits i k)));
      digits = (bit_below true m t.fixed p l ∙ h.digits.0, bit_below true m u.fixed p l ∙ h.digits.1);
      zero_one = (bit_below c m t.bits p l ∙ h.zero_one.0, bit_below c m u.bits p l ∙ h.zero_one.1);
    }

before_cross : (m : ℕ) (t u : Plain) → IsWellFormed m t → IsWellFormed m u → Before (suc m) (with_zero m t) (with_one m u)
before_cross m t u a b =
    record {
      position = m;
      within = omega arith;
      same_fixed = λ i k q. absurd (omega arith);
      same_bits = λ i k q. absurd (omega arith);
      digits = (bit_top true m t.fixed a.below, bit_top true m u.fixed b.below);
      zero_one = (bit_top false m t.bits a.small, bit_top true m u.bits b.small);
    }

-- each element comes before each later one
abbrev pub Ordered : ℕ → List Plain → Type 0
Ordered w [] = Unit {0}
Ordered w (t ∷ ts) = Each (Before w t) ts × Ordered w ts

Each-map_both : (P Q R : Plain → Type 0) (f : Plain → Plain) → ((t : Plain) → P t → Q t → R (f t)) → (xs : List Plain) → Each P xs → Each Q xs → Each R (map f xs)
Each-map_both P Q R f h [] a b = tt
Each-map_both P Q R f h (x ∷ xs) a b = (h x a.0 b.0, Each-map_both P Q R f h xs a.1 b.1)

Ordered-map : (m : ℕ) (f : Plain → Plain) → ((t u : Plain) → IsWellFormed m t → IsWellFormed m u → Before m t u → Before (suc m) (f t) (f u)) → (xs : List Plain) → Each (IsWellFormed m) xs → Ordered m xs → Ordered (suc m) (map f xs)
Ordered-map m f h [] a o = tt
Ordered-map m f h (x ∷ xs) a o =
    (Each-map_both (IsWellFormed m) (Before m x) (Before (suc m) (f x)) f (λ u b k. h x u a.0 b k) xs a.1 o.0, Ordered-map m f h xs a.1 o.1)

Ordered-append : (w : ℕ) (xs ys : List Plain) → Ordered w xs → Ordered w ys → Each (λ x. Each (Before w x) ys) xs → Ordered w (xs ++ ys)
Ordered-append w [] ys a b c = b
Ordered-append w (x ∷ xs) ys a b c = (Each-append (Before w x) xs ys a.0 c.0, Ordered-append w xs ys a.1 b c.1)

same_list : (xs : List Plain) → map (λ (t : Plain). t) xs ≡ xs
same_list [] = refl
same_list (x ∷ xs) = ap (λ ys. x ∷ ys) (same_list xs)

ordered_point : (o : Option ℕ) → Ordered zero (point o)
ordered_point None = tt
ordered_point (Some v) = (tt, tt)

pub rows_ordered : (w : ℕ) (f : ℕ → Option ℕ) (r : List Plain) → IsRowsOf w f r → Ordered w r
unfolding IsRowsOf
rows_ordered zero f r p = subst (Ordered zero) (sym p) (ordered_point (f 0))
rows_ordered (suc m) f r p =
    let g : ℕ → Option ℕ = λ n. f (n + 2 ^ m) in
    let low = rows_ordered m f p.0 p.2 in
    let high = rows_ordered m g p.1 p.3 in
    let bl = rows_well_formed m f p.0 p.2 in
    let bh = rows_well_formed m g p.1 p.3 in
    elim p.4.merged [
      | inl x ↦ subst (Ordered (suc m)) (same_list p.0 ∙ sym x.1) (Ordered-map m (λ t. t) (before_star m) p.0 bl low)
      | inr x ↦ subst (Ordered (suc m)) (sym x.1) (Ordered-append (suc m) (map (with_zero m) p.0) (map (with_one m) p.1) (Ordered-map m (with_zero m) (before_digit false m) p.0 bl low) (Ordered-map m (with_one m) (before_digit true m) p.1 bh high) (Each-map (IsWellFormed m) (λ x'. Each (Before (suc m) x') (map (with_one m) p.1)) (with_zero m) (λ t a. Each-map (IsWellFormed m) (Before (suc m) (with_zero m t)) (with_one m) (λ u b. before_cross m t u a b) p.1 bh) p.0 bl))
    ]
