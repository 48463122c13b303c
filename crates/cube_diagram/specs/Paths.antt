-- The paths of a diagram, as the canonical rows of its function.
use Rattle.std.specs.Prelude.{ℕ, Option, Some, IsSome, ◌≡◌, ◌<◌, ◌≤◌, ◌^◌, ◌↔◌, ◌++◌, List, All, AllPairs, Any, Contains, map, length}
use Rattle.hdr_bits.specs.declared.cube.Cube.{Cube}
use Rattle.hdr_bits.specs.CubeBits.{digit_at, IsIn, IsStar, AgreesBefore}
use Rattle.hdr_bits.specs.Rows.{IsRow, ComesBefore}
use Rattle.cube_alg.specs.declared.cut.Piece.{Piece}
use Rattle.cube_alg.specs.Pairs.{IsInside}
use Rattle.cube_diagram.specs.declared.table.Node.{Node}
use Rattle.cube_diagram.specs.Nodes.{meaning, tested_at}
use Rattle.cube_diagram.specs.Parts.{Ignores}

-- each header of the piece has the piece's value
abbrev pub HasValue : (ℕ → Option ℕ) → Piece → Type 0
HasValue value p = (h : ℕ) → h < 2 ^ 112 → IsIn p.cube h → value h ≡ Some p.value

abbrev pub cubes_of : List Piece → List Cube
cubes_of pieces = map (λ p. p.cube) pieces

-- they are exactly the rows of the function that have a header in the cube, each of which lies in it whole, in order, with
-- their values
pub record AreRowsWithin (value : ℕ → Option ℕ) (cube : Cube) (rows : List Piece) : Type 0 where
  pub each : All (IsRow value) (cubes_of rows)
  pub inside : All (λ c. IsInside c cube) (cubes_of rows)
  pub covers : (h : ℕ) → h < 2 ^ 112 → IsIn cube h → IsSome (value h) → Any (λ p. IsIn p.cube h) rows
  pub ordered : AllPairs ComesBefore (cubes_of rows)
  pub values : All (HasValue value) rows

-- ---- how they are found

-- the two have the same digits before bit n
abbrev pub AlikeBefore : Cube → ℕ → Cube → Type 0
AlikeBefore c n d = (i : ℕ) → i < n → digit_at d i ≡ digit_at c i

-- id gives the headers of the path's cube what the function gives them; the path has digits before bit from alone, and
-- there it has `*` where a row has it
pub record IsPath (nodes : List Node) (value : ℕ → Option ℕ) (path : Cube) (from id : ℕ) : Type 0 where
  pub below : id < length nodes
  pub order : from ≤ tested_at nodes id
  pub free : (k : ℕ) → from ≤ k → k < 112 → IsStar path k
  pub leads : (h : ℕ) → h < 2 ^ 112 → AgreesBefore path from h → value h ≡ meaning nodes id h
  pub stars : (k : ℕ) → k < from → (IsStar path k ↔ Ignores value path k)

-- they are the rows of the function that have the path's digits before bit from, in order
pub record AreRowsUnder (value : ℕ → Option ℕ) (path : Cube) (from : ℕ) (cubes : List Cube) : Type 0 where
  pub each : All (IsRow value) cubes
  pub under : All (AlikeBefore path from) cubes
  pub every : (c : Cube) → IsRow value c → AlikeBefore path from c → Contains cubes c
  pub ordered : AllPairs ComesBefore cubes

-- they were added, with their values, and each header with a value that has the path's digits before bit from is in one
pub record AddsRows (value : ℕ → Option ℕ) (path : Cube) (from : ℕ) (old new : List Piece) : Type 0 where
  pub pieces : List Piece
  pub added : new ≡ old ++ pieces
  pub values : All (HasValue value) pieces
  pub rows : AreRowsUnder value path from (cubes_of pieces)
  pub covers : (h : ℕ) → h < 2 ^ 112 → AgreesBefore path from h → IsSome (value h) → Any (λ p. IsIn p.cube h) pieces

-- the number stands at the end of a path with this cube
pub record EndsPath (nodes : List Node) (value : ℕ → Option ℕ) (path : Cube) (id : ℕ) : Type 0 where
  pub from : ℕ
  pub is : IsPath nodes value path from id
