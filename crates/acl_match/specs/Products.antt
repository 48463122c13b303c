-- What two lists of cubes have in common.
use Rattle.std.specs.Prelude.{ℕ, ◌≡◌, ◌&&◌, ◌||◌, List}
use Rattle.hdr_bits.specs.declared.cube.Cube.{Cube}
use Rattle.hdr_bits.specs.CubeBits.{is_in}
use Rattle.acl_match.specs.Cubes.{any_in}

-- what the cube has in common with each of the tests was added
pub record AddsMeets (c : Cube) (tests old new : List Cube) : Type 0 where
  pub exact : (h : ℕ) → any_in new h ≡ (any_in old h || (is_in c h && any_in tests h))
