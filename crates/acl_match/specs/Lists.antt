-- A whole list: what its entries say in order, and as disjoint cubes.
use Rattle.std.specs.Prelude.{ℕ, ◌≡◌, Bool, true, false, Option, Some, None, List, [], ◌∷◌, if◌then◌else◌}
use Rattle.std.specs.Option.{option_or}
use Rattle.hdr_bits.specs.declared.header.Header.{Header}
use Rattle.hdr_bits.specs.declared.cube.Cube.{Cube}
use Rattle.hdr_bits.specs.HeaderBits.{number, header_of, IsHeader}
use Rattle.hdr_bits.specs.CubeBits.{IsIn}
use Rattle.cube_alg.specs.declared.cut.Piece.{Piece}
use Rattle.cube_alg.specs.Pairs.{AreApart}
use Rattle.cube_alg.specs.Pieces.{value_of}
use Rattle.net_types.specs.declared.config.AccessList.{AccessList}
use Rattle.net_types.specs.declared.config.Entry.{Entry}
use Rattle.net_types.specs.AccessLists.{matches, verdict, passes}
use Rattle.acl_match.specs.Cubes.{any_in}

-- no header is in both cubes
abbrev pub AreApartAnswers : Cube × Bool → Cube × Bool → Type 0
AreApartAnswers p q = AreApart p.0 q.0

-- the answer is whether the list passes each header of the cube
abbrev pub Answers : Option AccessList → Cube × Bool → Type 0
Answers list p = (h : Header) → IsHeader h → IsIn p.0 (number h) → p.1 ≡ passes (verdict list h)

-- the entries of a list, none without one
abbrev pub entries_of : Option AccessList → List Entry
entries_of None = []
entries_of (Some list) = list.entries

-- whether headers pass, as a number: 1 or 0
abbrev pub number_of : Bool → ℕ
number_of true = 1
number_of false = 0

-- the end of a list without entries passes, and any other end denies
abbrev pub end_of : List Entry → ℕ
end_of [] = 1
end_of (e ∷ es) = 0

-- whether the first entry that matches permits, as a number; nothing where none matches
abbrev pub entries_value : List Entry → ℕ → Option ℕ
entries_value [] h = None
entries_value (e ∷ es) h = if matches e (header_of h) then Some (number_of e.permit) else entries_value es h

-- behind the old pieces the new ones give the cubes' headers this answer
pub record AddsPieces (cubes : List Cube) (permit : Bool) (old new : List Piece) : Type 0 where
  pub exact : (h : ℕ) → value_of new h ≡ option_or (value_of old h) (if any_in cubes h then Some (number_of permit) else None)
