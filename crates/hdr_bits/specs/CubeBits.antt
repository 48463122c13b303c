-- The bits of a cube, and the headers that are in it.
use Rattle.std.specs.Prelude.{ℕ, Option, Some, None, ◌≡◌, ◌<◌, ◌==◌, Bool, bit_and, if◌then◌else◌, IsNone, IfSome}
use Rattle.hdr_bits.specs.declared.cube.Cube.{Cube}
use Rattle.hdr_bits.specs.Bits.{bit_of}

-- bit k of a cube: its digit, or nothing for `*`
abbrev pub digit_at : Cube → ℕ → Option ℕ
digit_at c k = if bit_of c.fixed k == 0 then None else Some (bit_of c.bits k)

-- bit k is `*` or the header's bit k
abbrev pub AgreesAt : Cube → ℕ → ℕ → Type 0
AgreesAt c h k = IfSome (digit_at c k) (λ b. bit_of h k ≡ b)

-- the header with number h is in the cube
abbrev pub IsIn : Cube → ℕ → Type 0
IsIn c h = (k : ℕ) → k < 112 → AgreesAt c h k

-- it agrees with the bits before k
abbrev pub AgreesBefore : Cube → ℕ → ℕ → Type 0
AgreesBefore c k h = (i : ℕ) → i < k → AgreesAt c h i

-- bit k is `*`
abbrev pub IsStar : Cube → ℕ → Type 0
IsStar c k = IsNone (digit_at c k)

-- the test that the code makes, on masks
abbrev pub is_in : Cube → ℕ → Bool
is_in c h = bit_and h c.fixed == c.bits
