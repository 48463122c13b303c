-- The entries of a device's transfer function by which a header is moved, and headers that take different ones (Kazemian
-- et al., Header Space Analysis, NSDI 2012: transfer functions).
use Rattle.std.specs.Prelude.{ℕ, ◌==◌, if◌then◌else◌, List, Option, Some, None, map, Contains, ◌↔◌}
use Rattle.hdr_bits.specs.declared.header.Header.{Header}
use Rattle.hdr_bits.specs.declared.cube.Cube.{Cube}
use Rattle.hdr_bits.specs.HeaderBits.{number, IsHeader}
use Rattle.hdr_bits.specs.CubeBits.{IsIn}
use Rattle.net_types.specs.declared.network.Move.{Move}
use Rattle.net_types.specs.declared.network.Move.TheVariants.{Drop, Local, Lost, Exit, Go}
use Rattle.net_types.specs.declared.network.Place.{Place}
use Rattle.net_types.specs.World.{World}
use Rattle.net_types.specs.Moves.{moves}

-- a value that is replaced, and what replaces it
pub record Rewrite : Type 0 where
  pub before : ℕ
  pub after : ℕ

-- nothing where the header keeps the value
abbrev pub rewritten : ℕ → ℕ → Option Rewrite
rewritten m n = if m == n then None else Some (record { before = m; after = n })

-- what an entry replaces: of the fields that translation can change
pub record Rewrites : Type 0 where
  pub src : Option Rewrite
  pub dst : Option Rewrite
  pub sport : Option Rewrite
  pub dport : Option Rewrite

-- between the header that arrives and the one that goes on
abbrev pub rewrites : Header → Header → Rewrites
rewrites g h =
    record {
      src = rewritten g.src h.src;
      dst = rewritten g.dst h.dst;
      sport = rewritten g.sport h.sport;
      dport = rewritten g.dport h.dport;
    }

-- an entry: what it does with headers, where, and what it replaces of them
pub data Entry : Type 0 where
  dropped : Entry
  local : Place → Entry
  lost : Entry
  exit : Place → Rewrites → Entry
  go : Place → Rewrites → Entry

-- the entry by which this header is moved so
abbrev pub entry_of : Header → Move → Entry
entry_of h Drop = dropped
entry_of h (Local p) = local p
entry_of h Lost = lost
entry_of h (Exit p g) = exit p (rewrites h g)
entry_of h (Go p g) = go p (rewrites h g)

-- the entries that a header takes at the place
abbrev pub entries : World → Place → Header → List Entry
entries w p h = map (entry_of h) (moves w p h)

-- two headers take the same entries there, in any order
abbrev pub TakeSameEntries : World → Place → Header → Header → Type 0
TakeSameEntries w p g h = (e : Entry) → Contains (entries w p g) e ↔ Contains (entries w p h) e

-- two headers of the cube with different entries at the place
pub record HasOtherEntries (w : World) (p : Place) (c : Cube) : Type 0 where
  pub first : Header
  pub second : Header
  pub first_valid : IsHeader first
  pub second_valid : IsHeader second
  pub first_in : IsIn c (number first)
  pub second_in : IsIn c (number second)
  pub other : TakeSameEntries w p first second → ⊥
