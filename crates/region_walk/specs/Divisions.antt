-- Why a region of headers is divided.
use Rattle.std.specs.Prelude.{ℕ, ◌≤◌}
use Rattle.hdr_bits.specs.declared.header.Header.{Header}
use Rattle.hdr_bits.specs.declared.cube.Cube.{Cube}
use Rattle.hdr_bits.specs.HeaderBits.{number, IsHeader}
use Rattle.hdr_bits.specs.CubeBits.{IsIn}
use Rattle.cube_alg.specs.declared.stamp.Stamp.{Stamp}
use Rattle.cube_alg.specs.Stamps.{applied}
use Rattle.net_types.specs.declared.network.Place.{Place}
use Rattle.net_types.specs.World.{World}
use Rattle.net_types.specs.Walks.{IsWalk, state_at}
use Rattle.transfer_rel.specs.Entries.{TakeSameEntries}

-- two headers of the cube take different entries at the place, once the stamp is applied to them
pub record HasOtherEntriesAfter (w : World) (p : Place) (s : Stamp) (c : Cube) : Type 0 where
  pub first : Header
  pub second : Header
  pub first_valid : IsHeader first
  pub second_valid : IsHeader second
  pub first_in : IsIn c (number first)
  pub second_in : IsIn c (number second)
  pub other : TakeSameEntries w p (applied s first) (applied s second) → ⊥

-- from the place p, walks of one number of moves, at most 254, take all headers of the cube to one place with one stamp, and
-- there two of them take different entries
pub record DividesOnTheWay (w : World) (p : Place) (c : Cube) : Type 0 where
  pub moves : ℕ
  pub within : moves ≤ 254
  pub place : Place
  pub stamp : Stamp
  pub reached : (h : Header) → IsHeader h → IsIn c (number h) → IsWalk w moves (state_at p h) (record { place = place; header = applied stamp h })
  pub other : HasOtherEntriesAfter w place stamp c
