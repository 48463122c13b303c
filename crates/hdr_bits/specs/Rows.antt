-- The canonical rows of a function that gives headers values: which cubes they are, and in what order
-- they stand. Ternary strings are those of header space (NSDI 2012); the canonical form is this product's own.
use Rattle.std.specs.Prelude.{ℕ, Option, Some, IsSome, ◌≡◌, ◌<◌, ◌^◌, ◌↔◌, List, All, AllPairs, Contains}
use Rattle.hdr_bits.specs.declared.cube.Cube.{Cube}
use Rattle.hdr_bits.specs.Bits.{flipped}
use Rattle.hdr_bits.specs.CubeBits.{digit_at, IsIn, AgreesBefore, IsStar}

-- A function gives some headers a value, by their numbers. A cube is a row of it where each header of the cube
-- has a value, and a bit is `*` exactly where flipping that bit never changes the value, among all headers
-- that agree with the earlier bits
pub record IsRow {V : Type 0} (value : ℕ → Option V) (c : Cube) : Type 0 where
  pub something : (h : ℕ) → h < 2 ^ 112 → IsIn c h → IsSome (value h)
  pub star : (k : ℕ) → k < 112 → (IsStar c k ↔ ((h : ℕ) → h < 2 ^ 112 → AgreesBefore c k h → value h ≡ value (flipped h k)))

-- at the first bit where the two differ, the first has 0 and the second 1
pub record ComesBefore (c d : Cube) : Type 0 where
  pub first : ℕ
  pub within : first < 112
  pub same : (i : ℕ) → i < first → digit_at c i ≡ digit_at d i
  pub zero_there : digit_at c first ≡ Some 0
  pub one_there : digit_at d first ≡ Some 1

-- the list has each row of the function once, in order
pub record AreRows {V : Type 0} (value : ℕ → Option V) (rows : List Cube) : Type 0 where
  pub each : All (IsRow value) rows
  pub every : (c : Cube) → IsRow value c → Contains rows c
  pub ordered : AllPairs ComesBefore rows
