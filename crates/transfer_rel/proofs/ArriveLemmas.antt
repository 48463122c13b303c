-- Arrival: headers that the input list passes come in.
use Rattle.std.proofs.Common.{ℕ, ◌≡◌, true, Some, ap, ◌∙◌}
use Rattle.std.specs.Prelude.{◌&&◌}
use Rattle.hdr_bits.specs.declared.header.Header.{Header}
use Rattle.hdr_bits.specs.declared.cube.Cube.{Cube}
use Rattle.hdr_bits.specs.HeaderBits.{number, IsHeader}
use Rattle.hdr_bits.specs.CubeBits.{IsIn}
use Rattle.cube_alg.specs.declared.on_cube.OnCube.{OnCube}
use Rattle.cube_alg.specs.declared.on_cube.OnCube.TheVariants as answer
use Rattle.cube_alg.specs.OnCubes.{on_cube_map}
use Rattle.cube_diagram.specs.Functions.{Functions, value_at}
use Rattle.net_types.specs.Moves.{coming_in, list_named, passes_list}
use Rattle.net_types.specs.Routes.{is_enabled}
use Rattle.net_types.specs.World.{Seat}
use Rattle.net_forms.specs.Forms.{IsList}
use Rattle.transfer_rel.specs.declared.arrive.Arrived.TheVariants.{Comes}
use Rattle.transfer_rel.specs.declared.translate.Stamped.{Stamped}
use Rattle.transfer_rel.specs.Stages.{OfArrived, OfTranslated}
use Rattle.transfer_rel.proofs.LeaveLemmas.{list_passes}

pub arrived : (seat : Seat) (fs : Functions) (f : ℕ) (c : Cube) (x : OnCube Stamped) → is_enabled seat.interface ≡ true → IsList fs (list_named seat.device.config seat.interface.input) f → ((h : Header) → IsHeader h → IsIn c (number h) → value_at fs f (number h) ≡ Some 1) → OfTranslated (coming_in seat) c x → OfArrived seat c (on_cube_map (λ made. Comes made) x)
arrived seat fs f c (answer.Divides k) e l p t = t
arrived seat fs f c (answer.All made) e l p t =
    record {
      let_in = λ h v i. ap (λ b. b && passes_list seat.device.config seat.interface.input h) e ∙ list_passes fs (list_named seat.device.config seat.interface.input) f h v l (p h v i);
      change = t;
    }
