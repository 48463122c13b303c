-- Cubes are told apart by their masks.
use Rattle.std.proofs.Common.{◌^◌, ◌<◌, ◌≡◌, bit_and}
use Rattle.std.proofs.Props.{props}
use mathlib.Core.HLevel.{is_prop→PathP}
use Rattle.hdr_bits.specs.declared.cube.Cube.{Cube}

-- two cubes with the same masks are one
pub same_cube : (c d : Cube) → c.fixed ≡ d.fixed → c.bits ≡ d.bits → c ≡ d
same_cube c d e g =
    λ i. record {
      fixed = e i;
      bits = g i;
      below = is_prop→PathP (λ j. e j < 2 ^ 112) (λ j. hlevel props) c.below d.below i;
      digits = is_prop→PathP (λ j. bit_and (g j) (e j) ≡ g j) (λ j. hlevel props) c.digits d.digits i;
    }
