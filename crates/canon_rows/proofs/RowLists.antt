use Rattle.std.proofs.Common.{ℕ, zero, suc, ◌+◌, ◌-◌, ◌^◌, ◌<◌, ◌≡◌, ◌⊎◌, inl, inr, Bool, true, false, List, [], ◌∷◌, ◌++◌, map, Option, Some, None, IsSome, is_some, refl, sym, ap, ◌∙◌, subst, arith, bit_and}
use Rattle.std.proofs.lemmas.Bool.{cases_lt}
use Rattle.std.proofs.lemmas.Nat.{and_le_r}
use Rattle.hdr_bits.proofs.Masks.{AgreesFrom}
use Rattle.canon_rows.specs.Pieces.{with_top}
use Rattle.canon_rows.specs.PlainRows.{Plain, with_zero, with_one, whole, point, IsRowsOf, IsWellFormed, Each}
use Rattle.canon_rows.proofs.HalfMasks.{twice, digits_low, digits_high, digits_of_low, digits_of_high}
use Rattle.canon_rows.proofs.RowRecursion.{same_rows, same_halves, Each-append, Each-map, Each-weaker}
use Rattle.canon_rows.proofs.TopBits.{by_digit}
use Rattle.canon_rows.proofs.Canonical.{SameHalves, IsRowAt, same_at, star_agrees, digit_agrees, digit_top, row_star, star_row, row_digit, digit_row}

-- ---- each list element is a row, with its value
pub record IsRowOf (w : ℕ) (f : ℕ → Option ℕ) (t : Plain) : Type 0 where
  pub well : IsWellFormed w t
  pub row : IsRowAt w f t.fixed t.bits
  pub value : (n : ℕ) → n < 2 ^ w → AgreesFrom w 0 t.fixed t.bits n → f n ≡ Some t.value

well_formed_star : (m : ℕ) (t : Plain) → IsWellFormed m t → IsWellFormed (suc m) t
well_formed_star m t b = let e = twice m in record { below = omega (arith, e); digits = b.digits; small = omega (arith, e) }

of_star : (m : ℕ) (f : ℕ → Option ℕ) (t : Plain) → SameHalves m f → IsRowOf m f t → IsRowOf (suc m) f t
of_star m f t s h =
    record {
      well = well_formed_star m t h.well;
      row = row_star m f t.fixed t.bits h.well.below s h.row;
      value = by_digit m (λ n. AgreesFrom (suc m) 0 t.fixed t.bits n → f n ≡ Some t.value) (λ c n l a. same_at c m f s n l ∙ h.value n l (star_agrees c m 0 t.fixed t.bits n a));
    }

-- a row of a half as a row of the whole
abbrev pub with_digit : Bool → ℕ → Plain → Plain
with_digit c m t = record { fixed = with_top true m t.fixed; bits = with_top c m t.bits; value = t.value }

of_digit : (c : Bool) (m : ℕ) (f : ℕ → Option ℕ) (t : Plain) → (SameHalves m f → ⊥) → IsWellFormed (suc m) (with_digit c m t) → IsRowOf m (λ n. f (with_top c m n)) t → IsRowOf (suc m) f (with_digit c m t)
of_digit c m f t s b h =
    record {
      well = b;
      row = row_digit c m f t.fixed t.bits h.well.below h.well.small s h.row;
      value = by_digit m (λ n. AgreesFrom (suc m) 0 (with_top true m t.fixed) (with_top c m t.bits) n → f n ≡ Some t.value) (λ d n l a. subst (λ q. f (with_top q m n) ≡ Some t.value) (digit_top c d m 0 t.fixed t.bits n h.well.below h.well.small l (omega arith) a) (h.value n l (digit_agrees c d m 0 t.fixed t.bits n a)));
    }

well_formed_digit : (c : Bool) (m : ℕ) (t : Plain) → IsWellFormed m t → IsWellFormed (suc m) (with_digit c m t)
well_formed_digit true m t b =
    let e = twice m in record { below = omega (arith, e); digits = digits_high m t.fixed t.bits b.below b.digits; small = omega (arith, e) }
well_formed_digit false m t b =
    let e = twice m in record { below = omega (arith, e); digits = digits_low m t.fixed t.bits b.below b.digits; small = omega (arith, e) }

row_of_point : (f : ℕ → Option ℕ) (o : Option ℕ) → f 0 ≡ o → Each (IsRowOf zero f) (point o)
row_of_point f None e = tt
row_of_point f (Some v) e = (
  record {
    well = record { below = omega arith; digits = refl; small = omega arith };
    row = record {
      something = λ n l a. let z : 0 ≡ n = omega arith in subst (λ k. IsSome (f k)) z (ap is_some e);
      starred = λ j l. absurd (omega arith);
      star = λ j l. absurd (omega arith);
    };
    value = λ n l a. let z : 0 ≡ n = omega arith in subst (λ k. f k ≡ Some v) z e;
  },
  tt,
)

pub rows_each : (w : ℕ) (f : ℕ → Option ℕ) (r : List Plain) → IsRowsOf w f r → Each (IsRowOf w f) r
unfolding IsRowsOf
rows_each zero f r p = subst (Each (IsRowOf zero f)) (sym p) (row_of_point f (f 0) refl)
rows_each (suc m) f r p =
    let g : ℕ → Option ℕ = λ n. f (n + 2 ^ m) in
    let low = rows_each m f p.0 p.2 in
    let high = rows_each m g p.1 p.3 in
    elim p.4.merged [
      | inl x ↦ subst (Each (IsRowOf (suc m) f)) (sym x.1) (Each-weaker (IsRowOf m f) (IsRowOf (suc m) f) (λ t h. of_star m f t (same_halves m f p.0 p.1 p.2 p.3 x.0) h) p.0 low)
      | inr x ↦ let n : SameHalves m f → ⊥ = λ s. x.0 (same_rows m f g p.0 p.1 s p.2 p.3) in subst (Each (IsRowOf (suc m) f)) (sym x.1) (Each-append (IsRowOf (suc m) f) (map (with_zero m) p.0) (map (with_one m) p.1) (Each-map (IsRowOf m f) (IsRowOf (suc m) f) (with_zero m) (λ t h. of_digit false m f t n (well_formed_digit false m t h.well) h) p.0 low) (Each-map (IsRowOf m g) (IsRowOf (suc m) f) (with_one m) (λ t h. of_digit true m f t n (well_formed_digit true m t h.well) h) p.1 high))
    ]

-- ---- every row is in the list
abbrev pub HasRow : ℕ → ℕ → List Plain → Type 0
HasRow fixed bits [] = ⊥
HasRow fixed bits (t ∷ ts) = ((t.fixed ≡ fixed) × (t.bits ≡ bits)) ⊎ HasRow fixed bits ts

has_left : (fixed bits : ℕ) (xs ys : List Plain) → HasRow fixed bits xs → HasRow fixed bits (xs ++ ys)
has_left fixed bits [] ys h = absurd h
has_left fixed bits (x ∷ xs) ys h = elim h [ inl e ↦ inl e | inr k ↦ inr (has_left fixed bits xs ys k) ]

has_right : (fixed bits : ℕ) (xs ys : List Plain) → HasRow fixed bits ys → HasRow fixed bits (xs ++ ys)
has_right fixed bits [] ys h = h
has_right fixed bits (x ∷ xs) ys h = inr (has_right fixed bits xs ys h)

has_digit : (c : Bool) (m fixed bits : ℕ) (xs : List Plain) → HasRow fixed bits xs → HasRow (with_top true m fixed) (with_top c m bits) (map (with_digit c m) xs)
has_digit c m fixed bits [] h = absurd h
has_digit c m fixed bits (x ∷ xs) h =
    elim h [ inl e ↦ inl (ap (with_top true m) e.0, ap (with_top c m) e.1) | inr k ↦ inr (has_digit c m fixed bits xs k) ]

has_point : (o : Option ℕ) → IsSome o → HasRow 0 0 (point o)
has_point None h = absurd cc
has_point (Some v) h = inl (refl, refl)

-- a mask of m + 1 bits has `*` or a digit at the first
pub by_mask : (m : ℕ) (P : ℕ → ℕ → Type 0) → ((fixed bits : ℕ) → fixed < 2 ^ m → bit_and bits fixed ≡ bits → P fixed bits) → ((c : Bool) (fixed bits : ℕ) → fixed < 2 ^ m → bits < 2 ^ m → bit_and bits fixed ≡ bits → P (with_top true m fixed) (with_top c m bits)) → (fixed bits : ℕ) → fixed < 2 ^ suc m → bit_and bits fixed ≡ bits → P fixed bits
by_mask m P star digits fixed bits l d =
    let t = twice m in
    elim (cases_lt fixed (2 ^ m)) [
      | inl k ↦ star fixed bits k d
      | inr k ↦ let e : (fixed - 2 ^ m) + 2 ^ m ≡ fixed = omega arith in
          let b = and_le_r bits fixed in
          elim (cases_lt bits (2 ^ m)) [
            | inl q ↦ subst (λ x. P x bits) e (digits false (fixed - 2 ^ m) bits (omega (arith, t)) q (digits_of_low m (fixed - 2 ^ m) bits (omega (arith, t)) q (rw e d)))
            | inr q ↦ let g : (bits - 2 ^ m) + 2 ^ m ≡ bits = omega arith in
                subst (λ x. P x bits) e (subst (λ y. P ((fixed - 2 ^ m) + 2 ^ m) y) g (digits true (fixed - 2 ^ m) (bits - 2 ^ m) (omega (arith, t)) (omega (arith, t, b, d)) (digits_of_high m (fixed - 2 ^ m) (bits - 2 ^ m) (omega (arith, t)) (omega (arith, t, b, d)) (rw (e, g) d))))
          ]
    ]

-- a row of a half is in the list of both
has_either : (m : ℕ) (f : ℕ → Option ℕ) (xs ys : List Plain) → ((fixed bits : ℕ) → fixed < 2 ^ m → bit_and bits fixed ≡ bits → IsRowAt m f fixed bits → HasRow fixed bits xs) → ((fixed bits : ℕ) → fixed < 2 ^ m → bit_and bits fixed ≡ bits → IsRowAt m (λ n. f (n + 2 ^ m)) fixed bits → HasRow fixed bits ys) → (c : Bool) (fixed bits : ℕ) → fixed < 2 ^ m → bit_and bits fixed ≡ bits → IsRowAt m (λ n. f (with_top c m n)) fixed bits → HasRow (with_top true m fixed) (with_top c m bits) (whole m xs ys)
has_either m f xs ys low high true fixed bits k d h =
    has_right (with_top true m fixed) (with_top true m bits) (map (with_zero m) xs) (map (with_one m) ys) (has_digit true m fixed bits ys (high fixed bits k d h))
has_either m f xs ys low high false fixed bits k d h =
    has_left (with_top true m fixed) (with_top false m bits) (map (with_zero m) xs) (map (with_one m) ys) (has_digit false m fixed bits xs (low fixed bits k d h))

pub rows_every : (w : ℕ) (f : ℕ → Option ℕ) (r : List Plain) → IsRowsOf w f r → (fixed bits : ℕ) → fixed < 2 ^ w → bit_and bits fixed ≡ bits → IsRowAt w f fixed bits → HasRow fixed bits r
unfolding IsRowsOf
rows_every zero f r p = λ fixed bits l d h.
    let z : 0 ≡ fixed = omega arith in
    let b = and_le_r bits fixed in
    let y : 0 ≡ bits = omega (arith, b, d) in
    rw p (subst (λ x. HasRow x bits (point (f 0))) z (subst (λ x. HasRow 0 x (point (f 0))) y (has_point (f 0) (h.something 0 (omega arith) (λ i _ k. absurd (omega arith))))))
rows_every (suc m) f r p =
    let g : ℕ → Option ℕ = λ n. f (n + 2 ^ m) in
    let low = rows_every m f p.0 p.2 in
    let high = rows_every m g p.1 p.3 in
    by_mask m (λ fixed bits. IsRowAt (suc m) f fixed bits → HasRow fixed bits r)
    (λ fixed bits k d h. let q = star_row m f fixed bits k h in elim p.4.merged [
      | inl x ↦ subst (HasRow fixed bits) (sym x.1) (low fixed bits k d q.1)
      | inr x ↦ absurd (x.0 (same_rows m f g p.0 p.1 q.0 p.2 p.3))
    ])
    (λ c fixed bits k l d h. let q = digit_row c m f fixed bits k l h in elim p.4.merged [
      | inl x ↦ absurd (q.0 (same_halves m f p.0 p.1 p.2 p.3 x.0))
      | inr x ↦ subst (HasRow (with_top true m fixed) (with_top c m bits)) (sym x.1) (has_either m f p.0 p.1 low high c fixed bits k d q.1)
    ])
