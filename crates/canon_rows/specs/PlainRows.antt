-- rows as the recursion over the bits makes them, on the bits that are left
use Rattle.std.specs.Prelude.{ℕ, Option, Some, None, ◌≡◌, ◌≢◌, ◌+◌, ◌^◌, ◌<◌, ◌⊎◌, List, [], ◌∷◌, ◌++◌, map, bit_and}
use Rattle.std.proofs.Common.{zero, suc}
use Rattle.canon_rows.specs.declared.Piece.{Piece}

-- a piece as three numbers
pub record Plain : Type 0 where
  pub fixed : ℕ
  pub bits : ℕ
  pub value : ℕ

abbrev pub plain : Piece → Plain
plain p = record { fixed = p.cube.fixed; bits = p.cube.bits; value = p.value }

-- a row of the half where the bit of weight 2 ^ m is 0, or 1, as a row of the whole
abbrev pub with_zero : ℕ → Plain → Plain
with_zero m t = record { fixed = t.fixed + 2 ^ m; bits = t.bits; value = t.value }

abbrev pub with_one : ℕ → Plain → Plain
with_one m t = record { fixed = t.fixed + 2 ^ m; bits = t.bits + 2 ^ m; value = t.value }

-- the rows of both halves, where these differ, as rows of the whole
abbrev pub whole : ℕ → List Plain → List Plain → List Plain
whole m low high = map (with_zero m) low ++ map (with_one m) high

-- where no bit is left, a function has its value as its one row, or none
abbrev pub point : Option ℕ → List Plain
point None = []
point (Some v) = record { fixed = 0; bits = 0; value = v } ∷ []

-- equal halves are one, with `*` at the bit; those that differ stand beside each other
pub record Merges (m : ℕ) (low high rows : List Plain) : Type 0 where
  pub merged : ((low ≡ high) × (rows ≡ low)) ⊎ ((low ≢ high) × (rows ≡ whole m low high))

-- these are the rows of f on the numbers below 2 ^ width
unfoldable pub IsRowsOf : ℕ → (ℕ → Option ℕ) → List Plain → Type 0
IsRowsOf zero f rows = rows ≡ point (f 0)
IsRowsOf (suc m) f rows =
    (low : List Plain) × (high : List Plain) × IsRowsOf m f low × IsRowsOf m (λ n. f (n + 2 ^ m)) high × Merges m low high rows

-- a cube of the last m bits
pub record IsWellFormed (m : ℕ) (t : Plain) : Type 0 where
  pub below : t.fixed < 2 ^ m
  pub digits : bit_and t.bits t.fixed ≡ t.bits
  pub small : t.bits < 2 ^ m

-- each row of the list, by recursion
abbrev pub Each : (Plain → Type 0) → List Plain → Type 0
Each P [] = Unit {0}
Each P (x ∷ xs) = P x × Each P xs
