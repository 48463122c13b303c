use Rattle.std.proofs.Common.{◌-◌, arith, refl, sym, ◌∙◌, true≢false}
use Rattle.std.proofs.Math.Nat.{one-le-pow}
use Rattle.cube_alg.proofs.CutLemmas.{split_halves}
use Rattle.cube_alg.proofs.RestLemmas.{turn_one, turn_zero, overlap_step, adds_step, adds_nothing, extends_same, extends_step}
use Rattle.cube_alg.proofs.rest.+add_rest.Goals as goal

pub returns-in_default-clause-rest : goal.returns-in_default-clause-rest
returns-in_default-clause-rest t c =
    adds_nothing c.args.a c.args.b.now c.args.pieces.now.items c.requires.overlap (c.in_default.ensures.none refl)

pub returns-in_err-push-clause-grows : goal.returns-in_err-push-clause-grows
returns-in_err-push-clause-grows t c = extends_same c.args.pieces.now.items _ c.in_err-push.ensures.items

pub returns-in_err-push-2-clause-grows : goal.returns-in_err-push-2-clause-grows
returns-in_err-push-2-clause-grows t c = extends_same c.args.pieces.now.items _ c.in_err-push-2.ensures.items

pub add_rest-requires : goal.add_rest-requires
add_rest-requires t c =
    let p = c.in-Some.ensures in
    let k = c.in-Some.bit in
    let e = c.split.ensures in
    let s = turn_one k c.args.a c.args.b.now c.split.result.0 c.split.result.1 p.bit p.first (split_halves k c.args.a c.split.result e.low e.high) e.low_bits e.high_bits (c.is_one.ensures.0 c.if-is_one.true) in
    let f = e.fixed.1 in
    let q = one-le-pow (111 - k) 2 (omega arith) in
    let b = c.split.result.1.below in
    (omega (arith, f, q, b, c.decreases), overlap_step c.args.a c.args.b.now c.split.result.0 c.split.result.1 s.step c.requires.overlap)

pub add_rest-requires-2 : goal.add_rest-requires-2
add_rest-requires-2 t c =
    let p = c.in-Some.ensures in
    let k = c.in-Some.bit in
    let e = c.split.ensures in
    let s = turn_zero k c.args.a c.args.b.now c.split.result.0 c.split.result.1 p.bit p.first (split_halves k c.args.a c.split.result e.low e.high) e.low_bits e.high_bits (λ e. let t = c.is_one.ensures.1 e in true≢false (sym t ∙ c.if-is_one.false)) in
    let f = e.fixed.0 in
    let q = one-le-pow (111 - k) 2 (omega arith) in
    let b = c.split.result.0.below in
    (omega (arith, f, q, b, c.decreases), overlap_step c.args.a c.args.b.now c.split.result.1 c.split.result.0 s.step c.requires.overlap)

pub returns-then-is_one-clause-rest : goal.returns-then-is_one-clause-rest
returns-then-is_one-clause-rest t c =
    let p = c.in-Some.ensures in
    let k = c.in-Some.bit in
    let e = c.split.ensures in
    let s = turn_one k c.args.a c.args.b.now c.split.result.0 c.split.result.1 p.bit p.first (split_halves k c.args.a c.split.result e.low e.high) e.low_bits e.high_bits (c.is_one.ensures.0 c.if-is_one.true) in
    adds_step c.args.a c.args.b.now c.split.result.0 c.split.result.1 k c.args.pieces.now.items _ s (rw c.in_ok-push.ensures.items at c.in_ok-add_rest.ensures.rest)

pub returns-then-is_one-clause-grows : goal.returns-then-is_one-clause-grows
returns-then-is_one-clause-grows t c =
    extends_step c.args.pieces.now.items _ c.split.result.0 (rw c.in_ok-push.ensures.items at c.in_ok-add_rest.ensures.grows)

pub returns-clause-rest : goal.returns-clause-rest
returns-clause-rest t c =
    let p = c.in-Some.ensures in
    let k = c.in-Some.bit in
    let e = c.split.ensures in
    let s = turn_zero k c.args.a c.args.b.now c.split.result.0 c.split.result.1 p.bit p.first (split_halves k c.args.a c.split.result e.low e.high) e.low_bits e.high_bits (λ e. let t = c.is_one.ensures.1 e in true≢false (sym t ∙ c.if-is_one.false)) in
    adds_step c.args.a c.args.b.now c.split.result.1 c.split.result.0 k c.args.pieces.now.items _ s (rw c.in_ok-push-2.ensures.items at c.in_ok-add_rest-2.ensures.rest)

pub returns-clause-grows : goal.returns-clause-grows
returns-clause-grows t c =
    extends_step c.args.pieces.now.items _ c.split.result.1 (rw c.in_ok-push-2.ensures.items at c.in_ok-add_rest-2.ensures.grows)

pub returns-in_err-add_rest-clause-grows : goal.returns-in_err-add_rest-clause-grows
returns-in_err-add_rest-clause-grows t c =
    extends_step c.args.pieces.now.items _ c.split.result.0 (rw c.in_ok-push.ensures.items at c.in_err-add_rest.ensures.grows)

pub returns-in_err-add_rest-2-clause-grows : goal.returns-in_err-add_rest-2-clause-grows
returns-in_err-add_rest-2-clause-grows t c =
    extends_step c.args.pieces.now.items _ c.split.result.1 (rw c.in_ok-push-2.ensures.items at c.in_err-add_rest-2.ensures.grows)

pub returns-in_default-clause-grows : goal.returns-in_default-clause-grows
returns-in_default-clause-grows t c = extends_same c.args.pieces.now.items _ refl
