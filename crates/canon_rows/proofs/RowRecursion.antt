use Rattle.std.proofs.Common.{ℕ, zero, suc, ◌+◌, ◌-◌, ◌^◌, ◌<◌, ◌≡◌, inl, inr, List, [], ◌∷◌, ◌++◌, map, Option, Some, None, refl, sym, ap, ◌∙◌, subst, arith}
use Rattle.std.proofs.lemmas.Bool.{cases_lt}
use Rattle.canon_rows.specs.PlainRows.{Plain, with_zero, with_one, point, Merges, IsRowsOf, IsWellFormed, Each}
use Rattle.canon_rows.proofs.HalfMasks.{twice, digits_low, digits_high}
use Rattle.canon_rows.proofs.RowValues.{value_at, value_at-append, or_else, value_at-star, value_at-low, value_at-high, value_at-low_not, value_at-high_not}

-- ---- one function has one list of rows
merged_same : (m : ℕ) (a b r s : List Plain) → Merges m a b r → Merges m a b s → r ≡ s
merged_same m a b r s p q =
    elim p.merged [
      | inl x ↦ elim q.merged [ inl y ↦ x.1 ∙ sym y.1 | inr y ↦ absurd (y.0 x.0) ]
      | inr x ↦ elim q.merged [ inl y ↦ absurd (x.0 y.0) | inr y ↦ x.1 ∙ sym y.1 ]
    ]

pub same_rows : (w : ℕ) (f g : ℕ → Option ℕ) (r s : List Plain) → ((n : ℕ) → n < 2 ^ w → f n ≡ g n) → IsRowsOf w f r → IsRowsOf w g s → r ≡ s
unfolding IsRowsOf
same_rows zero f g r s h p q = p ∙ ap point (h 0 (omega arith)) ∙ sym q
same_rows (suc m) f g r s h p q =
    let t = twice m in
    let low : p.0 ≡ q.0 = same_rows m f g p.0 q.0 (λ n l. h n (omega (arith, t))) p.2 q.2 in
    let high : p.1 ≡ q.1 = same_rows m (λ n. f (n + 2 ^ m)) (λ n. g (n + 2 ^ m)) p.1 q.1 (λ n l. h (n + 2 ^ m) (omega (arith, t))) p.3 q.3 in
    merged_same m q.0 q.1 r s (subst (λ a. Merges m a q.1 r) low (subst (λ b. Merges m p.0 b r) high p.4)) q.4

-- ---- its rows are well formed and give each number its value
pub Each-append : (P : Plain → Type 0) (xs ys : List Plain) → Each P xs → Each P ys → Each P (xs ++ ys)
Each-append P [] ys a b = b
Each-append P (x ∷ xs) ys a b = (a.0, Each-append P xs ys a.1 b)

pub Each-map : (P Q : Plain → Type 0) (f : Plain → Plain) → ((t : Plain) → P t → Q (f t)) → (xs : List Plain) → Each P xs → Each Q (map f xs)
Each-map P Q f h [] a = tt
Each-map P Q f h (x ∷ xs) a = (h x a.0, Each-map P Q f h xs a.1)

pub Each-weaker : (P Q : Plain → Type 0) → ((t : Plain) → P t → Q t) → (xs : List Plain) → Each P xs → Each Q xs
Each-weaker P Q h [] a = tt
Each-weaker P Q h (x ∷ xs) a = (h x a.0, Each-weaker P Q h xs a.1)

pub IsWellFormed-star : (m : ℕ) (t : Plain) → IsWellFormed m t → IsWellFormed (suc m) t
IsWellFormed-star m t b = let e = twice m in record { below = omega (arith, e); digits = b.digits; small = omega (arith, e) }

pub IsWellFormed-low : (m : ℕ) (t : Plain) → IsWellFormed m t → IsWellFormed (suc m) (with_zero m t)
IsWellFormed-low m t b =
    let e = twice m in record { below = omega (arith, e); digits = digits_low m t.fixed t.bits b.below b.digits; small = omega (arith, e) }

pub IsWellFormed-high : (m : ℕ) (t : Plain) → IsWellFormed m t → IsWellFormed (suc m) (with_one m t)
IsWellFormed-high m t b =
    let e = twice m in record { below = omega (arith, e); digits = digits_high m t.fixed t.bits b.below b.digits; small = omega (arith, e) }

point-plain : (o : Option ℕ) → Each (IsWellFormed zero) (point o)
point-plain None = tt
point-plain (Some v) = (record { below = omega arith; digits = refl; small = omega arith }, tt)

pub rows_well_formed : (w : ℕ) (f : ℕ → Option ℕ) (r : List Plain) → IsRowsOf w f r → Each (IsWellFormed w) r
unfolding IsRowsOf
rows_well_formed zero f r p = subst (Each (IsWellFormed zero)) (sym p) (point-plain (f 0))
rows_well_formed (suc m) f r p =
    let low = rows_well_formed m f p.0 p.2 in
    let high = rows_well_formed m (λ n. f (n + 2 ^ m)) p.1 p.3 in
    elim p.4.merged [
      | inl x ↦ subst (Each (IsWellFormed (suc m))) (sym x.1) (Each-weaker (IsWellFormed m) (IsWellFormed (suc m)) (IsWellFormed-star m) p.0 low)
      | inr x ↦ subst (Each (IsWellFormed (suc m))) (sym x.1) (Each-append (IsWellFormed (suc m)) (map (with_zero m) p.0) (map (with_one m) p.1) (Each-map (IsWellFormed m) (IsWellFormed (suc m)) (with_zero m) (IsWellFormed-low m) p.0 low) (Each-map (IsWellFormed m) (IsWellFormed (suc m)) (with_one m) (IsWellFormed-high m) p.1 high))
    ]

-- a number of m + 1 bits is one of m bits, or that plus 2 ^ m
pub by_halves : (m : ℕ) (P : ℕ → Type 0) → ((n : ℕ) → n < 2 ^ m → P n) → ((n : ℕ) → n < 2 ^ m → P (n + 2 ^ m)) → (n : ℕ) → n < 2 ^ suc m → P n
by_halves m P low high n l =
    let t = twice m in
    elim (cases_lt n (2 ^ m)) [ inl k ↦ low n k | inr k ↦ let e : (n - 2 ^ m) + 2 ^ m ≡ n = omega arith in subst P e (high (n - 2 ^ m) (omega (arith, t))) ]

or_else-none : (x : Option ℕ) → or_else x None ≡ x
or_else-none None = refl
or_else-none (Some v) = refl

value_at-point : (o : Option ℕ) → value_at (point o) 0 ≡ o
value_at-point None = refl
value_at-point (Some v) = refl

pub rows_value : (w : ℕ) (f : ℕ → Option ℕ) (r : List Plain) → IsRowsOf w f r → (n : ℕ) → n < 2 ^ w → value_at r n ≡ f n
unfolding IsRowsOf
rows_value zero f r p = λ n l. let z : n ≡ 0 = omega arith in rw (z, p) (value_at-point (f 0))
rows_value (suc m) f r p =
    let low = rows_value m f p.0 p.2 in
    let high = rows_value m (λ n. f (n + 2 ^ m)) p.1 p.3 in
    let bl = rows_well_formed m f p.0 p.2 in
    let bh = rows_well_formed m (λ n. f (n + 2 ^ m)) p.1 p.3 in
    elim p.4.merged [
      | inl x ↦ by_halves m (λ n. value_at r n ≡ f n)
          (λ n l. ap (λ ts. value_at ts n) x.1 ∙ low n l)
          (λ n l. ap (λ ts. value_at ts (n + 2 ^ m)) (x.1 ∙ x.0) ∙ (value_at-star m n p.1 l bh ∙ high n l))
      | inr x ↦ by_halves m (λ n. value_at r n ≡ f n)
          (λ n l. ap (λ ts. value_at ts n) x.1 ∙ (value_at-append (map (with_zero m) p.0) (map (with_one m) p.1) n ∙ (ap (λ y. or_else (value_at (map (with_zero m) p.0) n) y) (value_at-high_not m n p.1 l bh) ∙ (or_else-none _ ∙ (value_at-low m n p.0 l bl ∙ low n l)))))
          (λ n l. ap (λ ts. value_at ts (n + 2 ^ m)) x.1 ∙ (value_at-append (map (with_zero m) p.0) (map (with_one m) p.1) (n + 2 ^ m) ∙ (ap (λ y. or_else y (value_at (map (with_one m) p.1) (n + 2 ^ m))) (value_at-low_not m n p.0 l bl) ∙ (value_at-high m n p.1 l bh ∙ high n l))))
    ]

-- equal lists of the halves mean equal halves
pub same_halves : (m : ℕ) (f : ℕ → Option ℕ) (low high : List Plain) → IsRowsOf m f low → IsRowsOf m (λ n. f (n + 2 ^ m)) high → low ≡ high → (n : ℕ) → n < 2 ^ m → f n ≡ f (n + 2 ^ m)
same_halves m f low high p q e n l =
    sym (rows_value m f low p n l) ∙ (ap (λ ts. value_at ts n) e ∙ rows_value m (λ n. f (n + 2 ^ m)) high q n l)
