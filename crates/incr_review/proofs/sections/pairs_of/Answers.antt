use Rattle.std.proofs.Common.{sym, subst, List, take, refl}
use Rattle.std.specs.Prelude.{Contains}
use Rattle.incr_review.specs.declared.regions.Region.{Region}
use Rattle.incr_review.specs.Sections.{ArePairsOf, regions_at}
use Rattle.incr_review.proofs.SectionLemmas.{pairs_more, pairs_passed, pointed_at, pointed_more}
use Rattle.incr_review.proofs.sections.pairs_of.Goals as goal
use Rattle.incr_review.proofs.sections.pairs_of.Goals.{then-region-slot+in_ok-add_pair, else-region-slot}

pub add_pair-requires : goal.add_pair-requires
add_pair-requires c =
    let rs = c.args.regions.now in
    let at : Contains rs c.region-item.result = (c.loop-region.region-index, c.loop-region-test.true, sym c.region-item.is) in
    c.requires c.region-item.result.now (pointed_at rs c.region-item.result at)

pub loop-region-preserved : goal.loop-region-preserved
loop-region-preserved c =
    let fs = c.args.table.now in
    let rs = c.args.regions.now in
    let i = c.loop-region.region-index in
    let r = c.region-item.result in
    let old = c.loop-region.given in
    let taken = pointed_more rs i r c.loop-region-test.true c.region-item.is in
    elim c.if-region-slot.branch [
      | then-region-slot+in_ok-add_pair w ↦ (
          rw w.given-is (subst (λ (xs : List Region). ArePairsOf fs c.args.slot xs w.add_pair.new.given) (sym taken)
          (pairs_more fs c.args.slot (regions_at (take i rs)) r.now old w.add_pair.new.given c.loop-region.invariant w.if-region-slot.true w.in_ok-add_pair.ensures)))
      | else-region-slot w ↦ (
          rw w.given-is (subst (λ (xs : List Region). ArePairsOf fs c.args.slot xs old) (sym taken)
          (pairs_passed fs c.args.slot (regions_at (take i rs)) r.now old old c.loop-region.invariant (λ e. w.if-region-slot.false e) refl)))
    ]
