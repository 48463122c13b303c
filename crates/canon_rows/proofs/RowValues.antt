use Rattle.std.proofs.Common.{ℕ, ◌+◌, ◌^◌, ◌<◌, ◌≡◌, Bool, true, false, cond, ◌==◌, if◌then◌else◌, List, [], ◌∷◌, ◌++◌, map, Option, Some, None, refl, sym, ap, ◌∙◌, bit_and}
use Rattle.hdr_bits.specs.CubeBits.{is_in}
use Rattle.canon_rows.specs.declared.Piece.{Piece}
use Rattle.canon_rows.specs.Pieces.{value_of}
use Rattle.canon_rows.specs.PlainRows.{Plain, plain, with_zero, with_one, IsWellFormed, Each}
use Rattle.canon_rows.proofs.HalfMasks.{test_star, test_low, test_high, test_low_not, test_high_not}

-- the value of the first row that holds the number
abbrev pub value_at : List Plain → ℕ → Option ℕ
value_at [] n = None
value_at (t ∷ ts) n = if bit_and n t.fixed == t.bits then Some t.value else value_at ts n

pub value_of-plain : (ps : List Piece) (n : ℕ) → value_of ps n ≡ value_at (map plain ps) n
value_of-plain [] n = refl
value_of-plain (p ∷ ps) n = ap (λ x. if is_in p.cube n then Some p.value else x) (value_of-plain ps n)

abbrev pub or_else : Option ℕ → Option ℕ → Option ℕ
or_else None y = y
or_else (Some x) y = Some x

or_else-cond : (b : Bool) (v : ℕ) (x y : Option ℕ) → or_else (cond b (Some v) x) y ≡ cond b (Some v) (or_else x y)
or_else-cond true v x y = refl
or_else-cond false v x y = refl

pub value_at-append : (xs ys : List Plain) (n : ℕ) → value_at (xs ++ ys) n ≡ or_else (value_at xs n) (value_at ys n)
value_at-append [] ys n = refl
value_at-append (x ∷ xs) ys n =
    ap (λ z. cond (bit_and n x.fixed == x.bits) (Some x.value) z) (value_at-append xs ys n) ∙ sym (or_else-cond (bit_and n x.fixed == x.bits) x.value (value_at xs n) (value_at ys n))

pub value_at-star : (m n : ℕ) (ts : List Plain) → n < 2 ^ m → Each (IsWellFormed m) ts → value_at ts (n + 2 ^ m) ≡ value_at ts n
value_at-star m n [] l e = refl
value_at-star m n (t ∷ ts) l e =
    rw (test_star m n t.fixed t.bits l e.0.below, value_at-star m n ts l e.1)

pub value_at-low : (m n : ℕ) (ts : List Plain) → n < 2 ^ m → Each (IsWellFormed m) ts → value_at (map (with_zero m) ts) n ≡ value_at ts n
value_at-low m n [] l e = refl
value_at-low m n (t ∷ ts) l e =
    rw (test_low m n t.fixed t.bits l e.0.below, value_at-low m n ts l e.1)

pub value_at-high : (m n : ℕ) (ts : List Plain) → n < 2 ^ m → Each (IsWellFormed m) ts → value_at (map (with_one m) ts) (n + 2 ^ m) ≡ value_at ts n
value_at-high m n [] l e = refl
value_at-high m n (t ∷ ts) l e =
    rw (test_high m n t.fixed t.bits l e.0.below, value_at-high m n ts l e.1)

pub value_at-low_not : (m n : ℕ) (ts : List Plain) → n < 2 ^ m → Each (IsWellFormed m) ts → value_at (map (with_zero m) ts) (n + 2 ^ m) ≡ None
value_at-low_not m n [] l e = refl
value_at-low_not m n (t ∷ ts) l e =
    rw (test_high_not m n t.fixed t.bits l e.0.below e.0.small, value_at-low_not m n ts l e.1)

pub value_at-high_not : (m n : ℕ) (ts : List Plain) → n < 2 ^ m → Each (IsWellFormed m) ts → value_at (map (with_one m) ts) n ≡ None
value_at-high_not m n [] l e = refl
value_at-high_not m n (t ∷ ts) l e =
    rw (test_low_not m n t.fixed t.bits l e.0.below, value_at-high_not m n ts l e.1)
