use Rattle.std.proofs.Common.{refl, sym, subst, take_all}
use Rattle.std.specs.Prelude.{Contains}
use Rattle.like_devices.proofs.LikeLemmas.{alike_more}
use Rattle.like_devices.proofs.like.send_alike.Goals as goal

pub loop-number-preserved : goal.loop-number-preserved
loop-number-preserved c =
    alike_more c.args.before.now c.args.after.now c.args.device c.args.numbers.now c.loop-number.number-index _ c.loop-number-test.true c.loop-number.invariant (c.if-not-sends_alike.ensures refl)

pub returns : goal.returns
returns c =
    λ t n k. c.loop-number.invariant n (subst (λ xs. Contains xs n) (sym (take_all c.loop-number.number-index c.args.numbers.now c.loop-number-test.false)) k)
