-- The headers of one cube outside another, as a list of cubes.
use Rattle.std.specs.Prelude.{ℕ, Some, ◌≡◌, ◌<◌, ◌-◌, ◌↔◌, ◌⊎◌, List, [], ◌∷◌, ◌++◌, All, AllPairs, Any, Contains}
use Rattle.std.specs.List.{AllZip}
use Rattle.std.specs.Option.{option_or}
use Rattle.hdr_bits.specs.declared.cube.Cube.{Cube}
use Rattle.hdr_bits.specs.Bits.{bit_of}
use Rattle.hdr_bits.specs.CubeBits.{digit_at, IsIn, IsStar}
use Rattle.cube_alg.specs.Pairs.{AreApart, IsInside}

-- bit k is `*` in a and has a digit in b
pub record Narrows (b a : Cube) (k : ℕ) : Type 0 where
  pub within : k < 112
  pub star : IsStar a k
  pub digit : bit_of b.fixed k ≡ 1

-- the part of a that agrees with b at the bits before k where only b has a digit, and differs from it at k
pub record IsPartAt (a b : Cube) (k : ℕ) (c : Cube) : Type 0 where
  pub before : (i : ℕ) → i < k → digit_at c i ≡ option_or (digit_at a i) (digit_at b i)
  pub differs : digit_at c k ≡ Some (1 - bit_of b.bits k)
  pub behind : (i : ℕ) → k < i → i < 112 → digit_at c i ≡ digit_at a i

-- the cubes are these parts, for rising k
pub record AreParts (a b : Cube) (cubes : List Cube) : Type 0 where
  pub bits : List ℕ
  pub narrowed : (k : ℕ) → Contains bits k ↔ Narrows b a k
  pub rising : AllPairs (λ i k. i < k) bits
  pub parts : AllZip (IsPartAt a b) bits cubes

-- disjoint cubes that hold exactly the headers of a outside b
pub record AreRest (a b : Cube) (cubes : List Cube) : Type 0 where
  pub apart : AllPairs AreApart cubes
  pub inside : All (λ c. IsInside c a) cubes
  pub outside : All (λ c. AreApart c b) cubes
  pub covers : (h : ℕ) → IsIn a h → (IsIn b h → ⊥) → Any (λ c. IsIn c h) cubes

-- a alone where it has no header of b, else its parts for rising bits
abbrev pub AreInOrder : Cube → Cube → List Cube → Type 0
AreInOrder a b cubes = (AreApart a b × (cubes ≡ a ∷ [])) ⊎ AreParts a b cubes

-- what is left of a outside b was added
pub record AddsRest (a b : Cube) (old new : List Cube) : Type 0 where
  pub cubes : List Cube
  pub added : new ≡ old ++ cubes
  pub rest : AreRest a b cubes
  pub order : AreInOrder a b cubes

-- the same where the two share a header
pub record AddsNarrowing (a b : Cube) (old new : List Cube) : Type 0 where
  pub cubes : List Cube
  pub added : new ≡ old ++ cubes
  pub rest : AreRest a b cubes
  pub order : AreParts a b cubes
