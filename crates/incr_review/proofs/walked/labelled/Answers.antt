use Rattle.std.proofs.Common.{subst, sym, List, take, ◌+◌}
use Rattle.incr_review.specs.declared.walked.WalkedPart.{WalkedPart}
use Rattle.incr_review.specs.Walked.{AreLabelled, IsLabelled}
use Rattle.incr_review.proofs.ListLemmas.{zip_turn}
use Rattle.incr_review.proofs.walked.labelled.Goals as goal

pub loop-part-preserved : goal.loop-part-preserved
loop-part-preserved c =
    let i = c.loop-part.part-index in
    let parts = c.args.parts.now in
    subst (λ (all : List WalkedPart). AreLabelled (take (i + 1) parts) all) (sym c.in_ok-push.ensures.items)
    (zip_turn IsLabelled parts i c.part-item.result c.loop-part.all.items c.in_ok-labelled_part.field-0 c.loop-part-test.true c.part-item.is c.loop-part.invariant c.in_ok-labelled_part.ensures)
