use Rattle.std.proofs.Common.{ℕ, take}
use Rattle.net_types.specs.World.{World}
use Rattle.incr_review.specs.Regions.{AreReviewed}
use Rattle.incr_review.proofs.CountLemmas.{Counted}
use Rattle.incr_review.proofs.sections.rows_of_sections.Given as goal

abbrev pub invariant-loop-slot : goal.invariant-loop-slot
invariant-loop-slot l = (old new : World) (t : ℕ) → AreReviewed old new t l.ingress l.table l.regions → Counted old new t (take l.slot l.ingress) l.count
