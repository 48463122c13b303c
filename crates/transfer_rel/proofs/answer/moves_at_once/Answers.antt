use Rattle.std.proofs.Common.{◌≡◌, ◌∷◌, [], Some, sym, subst}
use Rattle.net_view.specs.Borrowed.{seat_of}
use Rattle.net_types.specs.Moves.{moves_at}
use Rattle.cube_alg.specs.declared.on_cube.OnCube.TheVariants as answer
use Rattle.net_forms.specs.Worlds.{world_in}
use Rattle.transfer_rel.specs.declared.moves.StampMove.TheVariants as stamped
use Rattle.transfer_rel.specs.CubeMoves.{AreMovesOn}
use Rattle.transfer_rel.specs.Stages.{OfAnswer, OfMovesBy}
use Rattle.transfer_rel.proofs.AnswerLemmas.{at_seat, nothing_there}
use Rattle.transfer_rel.proofs.SetLemmas.{ok_then}
use Rattle.transfer_rel.proofs.answer.moves_at_once.Goals as goal

pub returns-in_default : goal.returns-in_default
returns-in_default c =
    let w = world_in c.args.prepared.now c.args.version in
    let p = c.args.place in
    let cube = c.args.cube.now in
    ok_then (λ r. r ≡ answer.All (stamped.Drop ∷ [])) (OfAnswer (AreMovesOn w p cube) cube) c.just.result (λ r e. subst (OfAnswer (AreMovesOn w p cube) cube) (sym e) (nothing_there w p cube c.in_default.ensures.seat)) c.just.ensures

pub moves_in-requires : goal.moves_in-requires
moves_in-requires c = c.in-Some.ensures.stands.compiled

pub returns : goal.returns
returns c =
    let w = world_in c.args.prepared.now c.args.version in
    let p = c.args.place in
    let cube = c.args.cube.now in
    let at = c.in-Some.at in
    ok_then (OfMovesBy (moves_at at.wiring.now (Some (seat_of at.seat))) cube) (OfAnswer (AreMovesOn w p cube) cube) c.moves_in.result (λ r m. at_seat w p cube (Some (seat_of at.seat)) r c.in-Some.ensures.seat (subst (λ v. OfMovesBy (moves_at v (Some (seat_of at.seat))) cube r) c.in-Some.ensures.stands.world m)) c.moves_in.ensures
