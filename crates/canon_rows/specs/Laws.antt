-- what the laws of rows speak of
use Rattle.std.specs.Prelude.{ℕ, ◌≡◌, ◌<◌, ◌^◌, ◌↔◌, ◌⊎◌, Option, IsSome}
use Rattle.hdr_bits.specs.declared.cube.Cube.{Cube}
use Rattle.hdr_bits.specs.CubeBits.{IsIn}
use Rattle.hdr_bits.specs.Rows.{IsRow}

-- of any two values it is decided whether they are equal
abbrev pub IsDecided : Type 0 → Type 0
IsDecided A = (x y : A) → (x ≡ y) ⊎ (x ≡ y → ⊥)

-- the header with number h is in some row of f
pub record HasRowOf {V : Type 0} (f : ℕ → Option V) (h : ℕ) : Type 0 where
  pub cube : Cube
  pub row : IsRow f cube
  pub member : IsIn cube h

-- two functions give values to the same headers, and tell the same headers apart
pub record TellSameApart {V U : Type 0} (f : ℕ → Option V) (g : ℕ → Option U) : Type 0 where
  pub some : (h : ℕ) → h < 2 ^ 112 → (IsSome (f h) ↔ IsSome (g h))
  pub same : (h k : ℕ) → h < 2 ^ 112 → k < 2 ^ 112 → ((f h ≡ f k) ↔ (g h ≡ g k))
