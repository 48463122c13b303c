-- the function that a list of pieces defines
use Rattle.std.specs.Prelude.{ℕ, Option, Some, None, ◌≡◌, ◌<◌, ◌^◌, ◌+◌, Bool, List, [], ◌∷◌, if◌then◌else◌}
use Rattle.hdr_bits.specs.CubeBits.{IsIn, is_in}
use Rattle.canon_rows.specs.declared.Piece.{Piece}

-- the value of the first piece that holds the header with this number
abbrev pub value_of : List Piece → ℕ → Option ℕ
value_of [] h = None
value_of (p ∷ ps) h = if is_in p.cube h then Some p.value else value_of ps h

-- no header is in both pieces
abbrev pub AreApart : Piece → Piece → Type 0
AreApart p q = (h : ℕ) → h < 2 ^ 112 → IsIn p.cube h → IsIn q.cube h → ⊥

-- each header of the piece has the piece's value
abbrev pub HasValue : (ℕ → Option ℕ) → Piece → Type 0
HasValue f p = (h : ℕ) → h < 2 ^ 112 → IsIn p.cube h → f h ≡ Some p.value

-- the number with this digit put before its bits below m
abbrev pub with_top : Bool → ℕ → ℕ → ℕ
with_top high m n = if high then n + 2 ^ m else n
