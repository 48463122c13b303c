-- Two cubes: what they have in common, and the one in the other.
use Rattle.std.specs.Prelude.{ℕ, Some, ◌≡◌, ◌≢◌, ◌<◌, bit_and}
use Rattle.hdr_bits.specs.declared.cube.Cube.{Cube}
use Rattle.hdr_bits.specs.CubeBits.{digit_at, IsIn}

-- some header is in both
abbrev pub Overlap : Cube → Cube → Type 0
Overlap a b = (h : ℕ) × IsIn a h × IsIn b h

-- no header is in both
abbrev pub AreApart : Cube → Cube → Type 0
AreApart a b = (h : ℕ) → IsIn a h → IsIn b h → ⊥

-- each header of the first is in the second
abbrev pub IsInside : Cube → Cube → Type 0
IsInside a b = (h : ℕ) → IsIn a h → IsIn b h

-- the two agree where both have a digit, by their masks
abbrev pub Meets : Cube → Cube → Type 0
Meets a b = bit_and a.bits b.fixed ≡ bit_and b.bits a.fixed

-- the second is the first with this digit at bit k
pub record HasDigit (k digit : ℕ) (c d : Cube) : Type 0 where
  pub there : digit_at d k ≡ Some digit
  pub others : (i : ℕ) → i < 112 → i ≢ k → digit_at d i ≡ digit_at c i
