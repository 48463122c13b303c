use Rattle.std.proofs.Common.{ℕ, zero, suc, ◌+◌, ◌^◌, ◌<◌, ◌≡◌, inl, inr, Bool, true, false, cond, [], ◌∷◌, Option, Some, None, refl, sym, ap, subst, arith, bit_and}
use Rattle.std.proofs.lemmas.Nat.{and_le_r}
use Rattle.canon_rows.specs.declared.Piece.{Piece}
use Rattle.canon_rows.specs.Pieces.{value_of, with_top}
use Rattle.canon_rows.specs.PlainRows.{Plain, plain, IsRowsOf}
use Rattle.canon_rows.proofs.HalfMasks.{test_low, test_high, test_low_not, test_high_not}
use Rattle.canon_rows.proofs.PieceParts.{gives, gives_star}
use Rattle.canon_rows.proofs.RowSteps.{rows_ext, rows_none}
use Rattle.canon_rows.proofs.RowLists.{by_mask}

-- a function that gives the headers of one cube one value has that cube as its row
abbrev HasOneRow : ℕ → ℕ → ℕ → ℕ → Type 0
HasOneRow w value fixed bits = let t : Plain = record { fixed = fixed; bits = bits; value = value } in IsRowsOf w (gives fixed bits value) (t ∷ [])

given : (value : ℕ) (a b : Bool) → a ≡ b → cond b (Some value) None ≡ cond a (Some value) None
given value a b e = ap (λ t. cond t (Some value) None) (sym e)

star_step : (m value fixed bits : ℕ) → fixed < 2 ^ m → HasOneRow m value fixed bits → HasOneRow (suc m) value fixed bits
unfolding IsRowsOf
star_step m value fixed bits l h =
    let t : Plain = record { fixed = fixed; bits = bits; value = value } in
    (t ∷ [], t ∷ [], h, rows_ext m (gives fixed bits value) (λ n. gives fixed bits value (n + 2 ^ m)) (t ∷ []) (λ n k. gives_star true m n fixed bits value k l) h, record { merged = inl (refl, refl) })

none_rows : (m : ℕ) (f : ℕ → Option ℕ) → ((n : ℕ) → n < 2 ^ m → None ≡ f n) → IsRowsOf m f []
none_rows m f h = rows_ext m (λ n. None) f [] h (rows_none m (λ n. None) (λ n. refl))

digit_step : (c : Bool) (m value fixed bits : ℕ) → fixed < 2 ^ m → bits < 2 ^ m → HasOneRow m value fixed bits → HasOneRow (suc m) value (with_top true m fixed) (with_top c m bits)
unfolding IsRowsOf
digit_step true m value fixed bits l k h =
    let t : Plain = record { fixed = fixed; bits = bits; value = value } in
    let f : ℕ → Option ℕ = gives (fixed + 2 ^ m) (bits + 2 ^ m) value in (
      [],
      t ∷ [],
      none_rows m f (λ n i. given value _ false (test_low_not m n fixed bits i l)),
      rows_ext m (gives fixed bits value) (λ n. f (n + 2 ^ m)) (t ∷ []) (λ n i. given value _ _ (test_high m n fixed bits i l)) h,
      record { merged = inr (λ e. absurd cc, refl) },
    )
digit_step false m value fixed bits l k h =
    let t : Plain = record { fixed = fixed; bits = bits; value = value } in
    let f : ℕ → Option ℕ = gives (fixed + 2 ^ m) bits value in (
      t ∷ [],
      [],
      rows_ext m (gives fixed bits value) f (t ∷ []) (λ n i. given value _ _ (test_low m n fixed bits i l)) h,
      none_rows m (λ n. f (n + 2 ^ m)) (λ n i. given value _ false (test_high_not m n fixed bits i l k)),
      record { merged = inr (λ e. absurd cc, refl) },
    )

has_one_row : (w value fixed bits : ℕ) → fixed < 2 ^ w → bit_and bits fixed ≡ bits → HasOneRow w value fixed bits
unfolding IsRowsOf
has_one_row zero value fixed bits l d =
    let b = and_le_r bits fixed in
    let f : 0 ≡ fixed = omega arith in
    let g : 0 ≡ bits = omega (arith, b, d) in
    subst (λ x. HasOneRow zero value x bits) f (subst (λ x. HasOneRow zero value 0 x) g refl)
has_one_row (suc m) value fixed bits l d =
    by_mask m (HasOneRow (suc m) value) (λ fixed bits k d. star_step m value fixed bits k (has_one_row m value fixed bits k d)) (λ c fixed bits k i d. digit_step c m value fixed bits k i (has_one_row m value fixed bits k d)) fixed bits l d

-- the row of one piece
pub rows_one : (w : ℕ) (p : Piece) → p.cube.fixed < 2 ^ w → IsRowsOf w (value_of (p ∷ [])) (plain p ∷ [])
rows_one w p l = has_one_row w p.value p.cube.fixed p.cube.bits l p.cube.digits
