-- What is answered for a cube: one answer for all its headers, or a bit that divides it.
use Rattle.std.specs.Prelude.{ℕ, ◌<◌}
use Rattle.hdr_bits.specs.declared.header.Header.{Header}
use Rattle.hdr_bits.specs.declared.cube.Cube.{Cube}
use Rattle.hdr_bits.specs.HeaderBits.{number, IsHeader}
use Rattle.hdr_bits.specs.CubeBits.{IsIn, IsStar}
use Rattle.cube_alg.specs.declared.on_cube.OnCube.{OnCube}
use Rattle.cube_alg.specs.declared.on_cube.OnCube.TheVariants.{All, Divides}

-- bit k is one of a header's 112, and `*` in the cube
abbrev pub IsOpen : Cube → ℕ → Type 0
IsOpen c k = (k < 112) × IsStar c k

-- the fact holds of the answer and each header of the cube; or the bit that divides is open in the cube
abbrev pub OfOnCube : {T : Type 0} → (T → Header → Type 0) → Cube → OnCube T → Type 0
OfOnCube fact c (All answer) = (h : Header) → IsHeader h → IsIn c (number h) → fact answer h
OfOnCube fact c (Divides bit) = IsOpen c bit

-- the same with another answer
abbrev pub on_cube_map : {T U : Type 0} → (T → U) → OnCube T → OnCube U
on_cube_map f (All answer) = All (f answer)
on_cube_map f (Divides bit) = Divides bit
