use Rattle.std.proofs.Common.{take}
use Rattle.incr_review.specs.Walked.{AreLabelled}
use Rattle.incr_review.proofs.walked.labelled.Given as goal

abbrev pub invariant-loop-part : goal.invariant-loop-part
invariant-loop-part l = AreLabelled (take l.part-index l.parts) l.all.items
