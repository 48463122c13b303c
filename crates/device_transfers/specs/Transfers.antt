-- The list of what a device does with all headers, and when it is right.
use Rattle.std.specs.Prelude.{ℕ, ◌≡◌, List, ◌++◌, All, AllPairs, Any}
use Rattle.hdr_bits.specs.declared.header.Header.{Header}
use Rattle.hdr_bits.specs.declared.cube.Cube.{Cube}
use Rattle.hdr_bits.specs.HeaderBits.{number, IsHeader}
use Rattle.hdr_bits.specs.CubeBits.{IsIn}
use Rattle.cube_alg.specs.Pairs.{AreApart, IsInside}
use Rattle.net_types.specs.declared.network.Place.{Place}
use Rattle.net_types.specs.World.{World}
use Rattle.transfer_rel.specs.CubeMoves.{AreMovesOn}
use Rattle.device_transfers.specs.declared.transfer.TransferEntry.{TransferEntry}

-- each header of the entry's cube has exactly the entry's moves at the place
abbrev pub IsEntry : World → Place → TransferEntry → Type 0
IsEntry w p e = AreMovesOn w p e.cube e.moves

-- no header is in both
abbrev pub AreApartEntries : TransferEntry → TransferEntry → Type 0
AreApartEntries d e = AreApart d.cube e.cube

-- some entry's cube has the header with this number
abbrev pub Hold : List TransferEntry → ℕ → Type 0
Hold es n = Any (λ e. IsIn e.cube n) es

abbrev pub HoldEveryHeader : List TransferEntry → Type 0
HoldEveryHeader es = (h : Header) → IsHeader h → Hold es (number h)

-- the entries of a place for the headers of a cube
pub record AreEntriesOf (w : World) (p : Place) (c : Cube) (es : List TransferEntry) : Type 0 where
  pub inside : All (λ e. IsInside e.cube c) es
  pub apart : AllPairs AreApartEntries es
  pub covers : (n : ℕ) → IsIn c n → Hold es n
  pub each : All (IsEntry w p) es

-- they were added behind those that were there
pub record AddsEntries (w : World) (p : Place) (c : Cube) (old new : List TransferEntry) : Type 0 where
  pub entries : List TransferEntry
  pub added : new ≡ old ++ entries
  pub right : AreEntriesOf w p c entries
