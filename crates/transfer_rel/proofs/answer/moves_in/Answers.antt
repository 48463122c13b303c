use Rattle.std.proofs.Common.{◌≡◌, ◌∷◌, [], Some, sym, subst}
use Rattle.net_view.specs.Borrowed.{seat_of}
use Rattle.net_types.specs.Moves.{moves_at, moves_in}
use Rattle.cube_alg.specs.declared.on_cube.OnCube.TheVariants as answer
use Rattle.transfer_rel.specs.declared.moves.StampMove.TheVariants as stamped
use Rattle.transfer_rel.specs.Stages.{IsArrived, OfMovesAfter, OfMovesBy}
use Rattle.transfer_rel.proofs.AnswerLemmas.{came_in, denied}
use Rattle.transfer_rel.proofs.SetLemmas.{ok_then}
use Rattle.transfer_rel.proofs.answer.moves_in.Goals as goal

pub returns-in-Denied : goal.returns-in-Denied
returns-in-Denied c =
    let w = c.args.at.wiring.now in
    let seat = seat_of c.args.at.seat in
    let cube = c.args.cube.now in
    ok_then (λ r. r ≡ answer.All (stamped.Drop ∷ [])) (OfMovesBy (moves_at w (Some seat)) cube) c.just.result (λ r e. subst (OfMovesBy (moves_at w (Some seat)) cube) (sym e) (denied w seat cube (subst (IsArrived seat cube) c.in-Denied.is c.in-All.ensures))) c.just.ensures

pub returns-in-Comes : goal.returns-in-Comes
returns-in-Comes c =
    let w = c.args.at.wiring.now in
    let seat = seat_of c.args.at.seat in
    let cube = c.args.cube.now in
    let made = c.in-Comes.made in
    ok_then (OfMovesAfter (moves_in w seat) made.stamp made.cube) (OfMovesBy (moves_at w (Some seat)) cube) c.forward.result (λ r m. came_in w seat cube made.stamp made.cube r (subst (IsArrived seat cube) c.in-Comes.is c.in-All.ensures) m) c.forward.ensures
