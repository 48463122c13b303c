use Rattle.std.proofs.Common.{sym, subst, List}
use Rattle.incr_review.specs.declared.regions.Region.{Region}
use Rattle.incr_review.specs.Sections.{AreBelow}
use Rattle.incr_review.proofs.review.Review.affected.Goals as goal

pub rows_of_sections-requires : goal.rows_of_sections-requires
rows_of_sections-requires c = subst (λ (rs : List Region). AreBelow c.self.inside.live.tables.diagrams rs) (sym c.deref.ensures.value) c.self.invariant.review.reviewed.right.below
