use Rattle.std.proofs.Common.{Some, ap, ◌∙◌}
use Rattle.device_fates.proofs.FateLemmas.{grows_then, numbers_more}
use Rattle.device_fates.proofs.fates.Fates.numbers_of.Goals as goal

pub loop-fate-preserved : goal.loop-fate-preserved
loop-fate-preserved c =
    let inv = c.loop-fate.invariant in
    let new = c.number_of.new.self in (
      grows_then c.args.self.now c.loop-fate.self new inv.0 c.in_ok-number.ensures.grows,
      rw c.in_ok-push.ensures.items (numbers_more c.loop-fate.self new c.loop-fate.numbers.items c.args.others.now c.loop-fate.fate-index c.in_ok-number.number c.fate-item.result c.in_ok-number.ensures.grows (rw c.as_slice-items.ensures at c.loop-fate-test.true) (rw c.as_slice-items.ensures at c.fate-item.is) (c.in_ok-number.ensures.number ∙ ap Some c.in_ok-copy.ensures.same) inv.1),
    )
