use Rattle.std.proofs.Common.{take}
use Rattle.std.specs.List.{AllZip}
use Rattle.incr_review.specs.Parts.{IsPartBy}
use Rattle.incr_review.proofs.parts.numbered_parts.Given as goal

abbrev pub invariant-loop-one : goal.invariant-loop-one
invariant-loop-one l = AllZip (IsPartBy l.lists) (take l.one-index l.sets) l.parts.items
