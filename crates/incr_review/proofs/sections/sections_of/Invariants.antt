use Rattle.std.proofs.Common.{ℕ, take}
use Rattle.std.specs.List.{AllZip}
use Rattle.net_types.specs.World.{World}
use Rattle.net_types.specs.Report.{IsSection}
use Rattle.incr_review.specs.Regions.{AreReviewed}
use Rattle.incr_review.proofs.sections.sections_of.Given as goal

abbrev pub invariant-loop-slot : goal.invariant-loop-slot
invariant-loop-slot l = (old new : World) (t : ℕ) → AreReviewed old new t l.ingress l.table l.regions → AllZip (IsSection old new t) (take l.slot l.ingress) l.sections.items
