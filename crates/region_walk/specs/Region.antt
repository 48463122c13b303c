-- Regions of headers, and their halves.
use Rattle.std.specs.Prelude.{◌≡◌, ◌↔◌, ◌<◌, ℕ}
use Rattle.hdr_bits.specs.declared.cube.Cube.{Cube}
use Rattle.hdr_bits.specs.Bits.{bit_of}
use Rattle.hdr_bits.specs.CubeBits.{IsIn, IsStar}
use Rattle.net_types.specs.declared.network.Place.{Place}
use Rattle.net_types.specs.World.{World}

-- the headers of a cube that enter a network at a place
pub record Region : Type 0 where
  pub world : World
  pub place : Place
  pub cube : Cube

-- the two halves of a cube by a bit that is open in it
pub record AreHalves (c low high : Cube) : Type 0 where
  pub bit : ℕ
  pub within : bit < 112
  pub star : IsStar c bit
  pub zeros : (h : ℕ) → IsIn low h ↔ (IsIn c h × (bit_of h bit ≡ 0))
  pub ones : (h : ℕ) → IsIn high h ↔ (IsIn c h × (bit_of h bit ≡ 1))
  pub zeros_smaller : c.fixed < low.fixed
  pub ones_smaller : c.fixed < high.fixed
