use Rattle.std.proofs.Common.{arith, ◌+◌}
use Rattle.std.proofs.lemmas.Nat.{one_shl}
use Rattle.cube_alg.proofs.StampLemmas.{shifted_below, powers}
use Rattle.cube_alg.proofs.stamp.field_at.Goals as goal

pub overflow_sub-result : goal.overflow_sub-result
overflow_sub-result c =
    let r = c.requires in
    let a = one_shl c.args.shift 128 (omega (arith, r.shift)) in
    let b = one_shl (c.args.shift + c.args.width) 128 (omega (arith, r.shift, r.width)) in
    let p = powers c.args.shift c.args.width r.shift r.width in
    omega (arith, a, b, p)

pub returns : goal.returns
returns c =
    let r = c.requires in
    let a = one_shl c.args.shift 128 (omega (arith, r.shift)) in
    let b = one_shl (c.args.shift + c.args.width) 128 (omega (arith, r.shift, r.width)) in
    let p = powers c.args.shift c.args.width r.shift r.width in
    let s = shifted_below c.args.value c.args.width c.args.shift r.value in
    let e = c.from.ensures in
    rw e (omega (arith, a, b), omega (arith, p, s))
