-- Devices that do the same in two worlds.
use Rattle.std.specs.Prelude.{◌≡◌, ℕ}
use Rattle.hdr_bits.specs.declared.header.Header.{Header}
use Rattle.net_types.specs.declared.network.Place.{Place}
use Rattle.net_types.specs.World.{World}
use Rattle.net_types.specs.Moves.{moves}

-- whatever arrives at the device of this name has the same moves in both worlds
abbrev pub IsLike : World → World → ℕ → Type 0
IsLike w v name = (p : Place) → p.device ≡ name → (h : Header) → moves w p h ≡ moves v p h
