use Rattle.std.proofs.Common.{sym, subst, arith}
use Rattle.hdr_bits.specs.HeaderBits.{IsHeader}
use Rattle.cube_alg.specs.OnCubes.{IsOpen}
use Rattle.cube_alg.proofs.CutLemmas.{split_halves}
use Rattle.net_forms.specs.Worlds.{world_in}
use Rattle.transfer_rel.specs.CubeMoves.{AreMovesOn, OfCubeMoves}
use Rattle.transfer_rel.specs.Halves.{IsJoined}
use Rattle.transfer_rel.specs.Stages.{OfAnswer}
use Rattle.transfer_rel.proofs.HalfLemmas.{HaveMoves, of_joined, wider}
use Rattle.transfer_rel.proofs.SetLemmas.{ok_then}
use Rattle.transfer_rel.proofs.answer.+moves_on.Goals as goal

pub returns-in_default : goal.returns-in_default
returns-in_default t c =
    let w = world_in c.args.prepared.now c.args.version in
    let p = c.args.place in
    let cube = c.args.cube.now in
    let star : IsOpen cube c.in-Divides.bit = subst (OfAnswer (AreMovesOn w p cube) cube) c.in-Divides.is c.in_ok-answer.ensures in
    (star, wider w p c.split.result.0 cube c.in_ok-zeros.field-0 (λ n i. ((c.split.ensures.low n).0 i).0) c.in_default.not-All c.in_ok-zeros.ensures)

pub returns-in_default-2 : goal.returns-in_default-2
returns-in_default-2 t c =
    let w = world_in c.args.prepared.now c.args.version in
    let p = c.args.place in
    let cube = c.args.cube.now in
    let star : IsOpen cube c.in-Divides.bit = subst (OfAnswer (AreMovesOn w p cube) cube) c.in-Divides.is c.in_ok-answer.ensures in
    (star, wider w p c.split.result.1 cube c.in_ok-ones.field-0 (λ n i. ((c.split.ensures.high n).0 i).0) c.in_default-2.not-All c.in_ok-ones.ensures)

pub returns : goal.returns
returns t c =
    let w = world_in c.args.prepared.now c.args.version in
    let p = c.args.place in
    let cube = c.args.cube.now in
    let low = c.split.result.0 in
    let high = c.split.result.1 in
    let bit = c.in-Divides.bit in
    let g = c.least.result in
    let h = c.least-2.result in
    let first : IsHeader g = record { dst = omega arith; src = omega arith; proto = omega arith; dport = omega arith; sport = omega arith; flags = omega arith } in
    let second : IsHeader h = record { dst = omega arith; src = omega arith; proto = omega arith; dport = omega arith; sport = omega arith; flags = omega arith } in
    let star : IsOpen cube bit = subst (OfAnswer (AreMovesOn w p cube) cube) c.in-Divides.is c.in_ok-answer.ensures in
    let zeros : AreMovesOn w p low c.as_slice.result.now = subst (AreMovesOn w p low) (sym c.as_slice.ensures) (subst (OfCubeMoves w p low) c.in-All-2.is c.in_ok-zeros.ensures) in
    let ones : AreMovesOn w p high c.as_slice-2.result.now = subst (AreMovesOn w p high) (sym c.as_slice-2.ensures) (subst (OfCubeMoves w p high) c.in-All-3.is c.in_ok-ones.ensures) in
    let have : HaveMoves w p bit cube low high g h c.as_slice.result.now c.as_slice-2.result.now =
    record {
      halves = split_halves bit cube c.split.result c.split.ensures.low c.split.ensures.high;
      first = first;
      second = second;
      first_in = c.least.ensures.member;
      second_in = c.least-2.ensures.member;
      low_moves = zeros;
      high_moves = ones;
    } in
    ok_then (IsJoined c.as_slice.result.now g c.as_slice-2.result.now h bit) (OfCubeMoves w p cube) c.joined.result (of_joined w p bit cube low high g h c.as_slice.result.now c.as_slice-2.result.now have star) c.joined.ensures
