-- Pieces in order of priority: the first one that holds a header decides.
use Rattle.std.specs.Prelude.{ℕ, Option, Some, None, ◌≡◌, ◌<◌, List, [], ◌∷◌, ◌++◌, All, AllPairs, if◌then◌else◌}
use Rattle.hdr_bits.specs.declared.cube.Cube.{Cube}
use Rattle.hdr_bits.specs.CubeBits.{IsIn, IsStar, is_in}
use Rattle.cube_alg.specs.declared.cut.Piece.{Piece}
use Rattle.cube_alg.specs.Pairs.{AreApart, IsInside}

-- the value of the first piece that holds the header
abbrev pub value_of : List Piece → ℕ → Option ℕ
value_of [] h = None
value_of (p ∷ ps) h = if is_in p.cube h then Some p.value else value_of ps h

-- no header is in both pieces
abbrev pub AreApartPieces : Piece → Piece → Type 0
AreApartPieces p q = AreApart p.cube q.cube

-- no piece fixes the bit k
abbrev pub AreStarsAt : List Piece → ℕ → Type 0
AreStarsAt pieces k = All (λ p. IsStar p.cube k) pieces

-- disjoint parts of the region, which give each of its headers what the first match of the pieces gives,
-- and fix no bit that neither the region nor a piece fixes
pub record IsCut (region : Cube) (pieces parts : List Piece) : Type 0 where
  pub inside : All (λ p. IsInside p.cube region) parts
  pub apart : AllPairs AreApartPieces parts
  pub exact : (h : ℕ) → IsIn region h → value_of parts h ≡ value_of pieces h
  pub stars : (k : ℕ) → k < 112 → IsStar region k → AreStarsAt pieces k → AreStarsAt parts k

-- a cut was added
pub record AddsCut (region : Cube) (pieces old new : List Piece) : Type 0 where
  pub parts : List Piece
  pub added : new ≡ old ++ parts
  pub cut : IsCut region pieces parts
