use Rattle.std.proofs.Common.{arith, refl}
use Rattle.std.proofs.lemmas.Bool.Decides.{nat_tests}
use Rattle.change_scope.specs.Devices.{IsSameSeat}
use Rattle.change_scope.proofs.NamedLemmas.{at_index, pair_next}
use Rattle.std.proofs.lemmas.Option.{slice_get_within}
use Rattle.change_scope.proofs.devices.same_seats.Goals as goal

pub loop-i-preserved : goal.loop-i-preserved
loop-i-preserved c =
    let i = c.loop-i.i in
    let l = c.loop-i-test.true in
    let m = c.if-a-b.false in
    pair_next IsSameSeat c.args.a.now c.args.b.now i c.index-a-i.result c.index-b-i.result (at_index c.args.a.now i c.index-a-i.result l c.index-a-i.is) (at_index c.args.b.now i c.index-b-i.result (grind (arith, nat_tests, l, m)) c.index-b-i.is) c.loop-i.invariant (c.if-not-same_seat.ensures refl)

pub returns : goal.returns
returns c =
    λ t.
    let m = c.if-a-b.false in
    let n = c.loop-i-test.false in
    record {
      count = grind (arith, nat_tests, m);
      each = λ k x y e f. (let w = slice_get_within c.args.a.now k x e in c.loop-i.invariant k (grind (arith, nat_tests, n, w)) x y e f);
    }
