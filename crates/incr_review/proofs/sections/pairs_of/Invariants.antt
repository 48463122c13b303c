use Rattle.std.proofs.Common.{take}
use Rattle.incr_review.specs.Sections.{ArePairsOf, regions_at}
use Rattle.incr_review.proofs.sections.pairs_of.Given as goal

abbrev pub invariant-loop-region : goal.invariant-loop-region
invariant-loop-region l = ArePairsOf l.table l.slot (regions_at (take l.region-index l.regions)) l.given
