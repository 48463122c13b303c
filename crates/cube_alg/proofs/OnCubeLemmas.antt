-- Answers for a cube, and for a part of it.
use Rattle.std.proofs.Common.{ℕ, ◌-◌, ap, arith}
use Rattle.std.specs.Int.{bit_at}
use Rattle.std.proofs.lemmas.Nat.Bits.{bit_at_and}
use Rattle.hdr_bits.specs.declared.header.Header.{Header}
use Rattle.hdr_bits.specs.declared.cube.Cube.{Cube}
use Rattle.hdr_bits.specs.HeaderBits.{number, IsHeader}
use Rattle.hdr_bits.specs.CubeBits.{IsIn}
use Rattle.cube_alg.specs.declared.on_cube.OnCube.{OnCube}
use Rattle.cube_alg.specs.declared.on_cube.OnCube.TheVariants.{All, Divides}
use Rattle.cube_alg.specs.Pairs.{IsInside}
use Rattle.cube_alg.specs.OnCubes.{IsOpen, OfOnCube, on_cube_map}
use Rattle.cube_alg.proofs.MaskLemmas.{wider_of_inside}
use Rattle.cube_alg.proofs.SplitLemmas.{star_free, free_star}

-- a bit that is open in a part of the cube is open in the cube
pub open_in_part : (c d : Cube) (k : ℕ) → IsInside d c → IsOpen d k → IsOpen c k
open_in_part c d k inside o =
    let w = ap (λ n. bit_at n (111 - k)) (wider_of_inside c d inside) in
    let x = bit_at_and c.fixed d.fixed (111 - k) in
    let z = star_free d k o.1 in
    (o.0, free_star c k (omega (arith, w, x, z)))

-- what is made of the answer: the fact that follows from the answer's holds of it
pub of_on_cube_map : {T U : Type 0} (f : T → U) (fact : T → Header → Type 0) (other : U → Header → Type 0) (c : Cube) (r : OnCube T) → ((answer : T) (h : Header) → IsHeader h → IsIn c (number h) → fact answer h → other (f answer) h) → OfOnCube fact c r → OfOnCube other c (on_cube_map f r)
of_on_cube_map f fact other c (All answer) follows o = λ h i m. follows answer h i m (o h i m)
of_on_cube_map f fact other c (Divides bit) follows o = o

-- the same answer with a fact that follows
pub of_on_cube_weaker : {T : Type 0} (fact other : T → Header → Type 0) (c : Cube) (r : OnCube T) → ((answer : T) (h : Header) → IsHeader h → IsIn c (number h) → fact answer h → other answer h) → OfOnCube fact c r → OfOnCube other c r
of_on_cube_weaker fact other c (All answer) follows o = λ h i m. follows answer h i m (o h i m)
of_on_cube_weaker fact other c (Divides bit) follows o = o

-- an answer for a cube is one for each part of it, where it is one for all headers
pub of_on_cube_part : {T : Type 0} (fact : T → Header → Type 0) (c d : Cube) (answer : T) → IsInside d c → OfOnCube fact c (All answer) → OfOnCube fact d (All answer)
of_on_cube_part fact c d answer inside o = λ h i m. o h i (inside (number h) m)
