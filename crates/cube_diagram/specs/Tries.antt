-- The diagram of pieces below a bit, for the headers that agree with them before it.
use Rattle.std.specs.Prelude.{ℕ, Option, ◌≡◌, ◌<◌, ◌≤◌, ◌==◌, ◌||◌, Bool, not, List, length, All, if◌then◌else◌}
use Rattle.hdr_bits.specs.Bits.{bit_of}
use Rattle.cube_alg.specs.declared.cut.Piece.{Piece}
use Rattle.cube_alg.specs.Pieces.{value_of}
use Rattle.cube_diagram.specs.declared.table.Node.{Node}
use Rattle.cube_diagram.specs.Nodes.{IsModel, tested_at}
use Rattle.cube_diagram.specs.Entries.{AgreesIn}

-- bit k of the piece is `*` or this one
abbrev pub is_on : ℕ → Bool → Piece → Bool
is_on k one p = not (bit_of p.cube.fixed k == 1) || (if one then bit_of p.cube.bits k == 1 else not (bit_of p.cube.bits k == 1))

-- r gives the value of the first piece that holds the header, to headers that agree with all of them before the bit
pub record IsTrie (nodes : List Node) (pieces : List Piece) (from r : ℕ) : Type 0 where
  pub below : r < length nodes
  pub order : from ≤ tested_at nodes r
  pub value : (val : ℕ → ℕ → Option ℕ) → IsModel nodes val → (h : ℕ) → All (λ p. AgreesIn p.cube 0 from h) pieces → val r h ≡ value_of pieces h
