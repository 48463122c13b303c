use Rattle.std.proofs.Common.{take}
use Rattle.incr_review.specs.Sections.{AreDiffering, regions_at}
use Rattle.incr_review.proofs.sections.differing_regions.Given as goal

abbrev pub invariant-loop-region : goal.invariant-loop-region
invariant-loop-region l = AreDiffering (take l.region-index l.regions) (regions_at l.differing.items)
