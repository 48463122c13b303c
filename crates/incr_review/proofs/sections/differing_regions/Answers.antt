use Rattle.std.proofs.Common.{◌≡◌, ◌++◌, ◌∷◌, [], ◌∙◌, ap, sym, subst, List, take, rules}
use Rattle.std.proofs.lemmas.List.{map-append}
use denote.Ref.{Bor}
use Rattle.incr_review.specs.declared.regions.Region.{Region}
use Rattle.incr_review.specs.Sections.{AreDiffering, regions_at}
use Rattle.incr_review.proofs.SectionLemmas.{differing_more, differing_same, taken_more}
use Rattle.incr_review.proofs.sections.differing_regions.Goals as goal
use Rattle.incr_review.proofs.sections.differing_regions.Goals.{then-not-same+in_ok-push, else-not-same}

pub loop-region-preserved : goal.loop-region-preserved
loop-region-preserved c =
    let rs = c.args.regions.now in
    let i = c.loop-region.region-index in
    let r = c.region-item.result in
    let ds = regions_at c.loop-region.differing.items in
    let taken = taken_more rs i r c.loop-region-test.true c.region-item.is in
    elim c.if-not-same.branch [
      | then-not-same+in_ok-push w ↦ (
          let pushed : regions_at w.push.new.self.items ≡ ds ++ r ∷ [] = ap regions_at w.in_ok-push.ensures.items ∙ map-append (λ (x : Bor Region). x.now) c.loop-region.differing.items _ in
          rw w.differing-is (subst (λ (xs : List Region). AreDiffering xs (regions_at w.push.new.self.items)) (sym taken) (subst (AreDiffering (take i rs ++ r ∷ [])) (sym pushed) (differing_more (take i rs) ds r c.loop-region.invariant))))
      | else-not-same w ↦ (
          let same : r.old ≡ r.new = c.same.ensures.0 (search rules) in
          rw w.differing-is (subst (λ (xs : List Region). AreDiffering xs ds) (sym taken) (differing_same (take i rs) ds r same c.loop-region.invariant)))
    ]
