use Rattle.std.proofs.Common.{sym, subst, List, take_all, get_or}
use Rattle.net_types.specs.declared.network.Place.{Place}
use denote.Ref.{Bor}
use Rattle.incr_review.specs.declared.regions.Region.{Region}
use Rattle.incr_review.specs.Sections.{AreDiffering, IsCountAt, regions_at}
use Rattle.incr_review.proofs.RegionLemmas.{at_default}
use Rattle.incr_review.proofs.SectionLemmas.{pairs_given, pairs_whole}
use Rattle.incr_review.proofs.CountLemmas.{Counted, counted_more, none_counted}
use Rattle.incr_review.proofs.sections.rows_of_sections.Goals as goal

pub row_count_at-requires : goal.row_count_at-requires
row_count_at-requires c =
    let differing = subst (λ (xs : List (Bor Region)). AreDiffering c.args.regions.now (regions_at xs)) (sym c.deref.ensures.value) c.in_ok-differing.ensures in
    λ r m. c.requires r (differing.from r m)

pub loop-slot-init : goal.loop-slot-init
loop-slot-init c old new t review = none_counted old new t

pub loop-slot-preserved : goal.loop-slot-preserved
loop-slot-preserved c old new t review =
    let ingress = c.args.ingress.now in
    let i = c.loop-slot.slot in
    let d : Place = record { device = 0; interface = 0 } in
    let p = get_or ingress i d in
    let l = c.loop-slot-test.true in
    let at = subst (λ (xs : List (Bor Region)). IsCountAt c.args.table.now i (regions_at xs) c.in_ok-rows.rows) c.deref.ensures.value c.in_ok-rows.ensures in
    let f = pairs_given old new t ingress c.args.table.now c.args.regions.now i p at.given (at_default ingress i d l) l review (pairs_whole c.args.table.now i c.args.regions.now (regions_at c.in_ok-differing.differing.items) at.given c.in_ok-differing.ensures at.pairs) in
    counted_more old new t ingress i d at.given c.loop-slot.count c.in_ok-rows.rows _ l at.pairs.distinct f at.right c.in_ok-count.ensures (c.loop-slot.invariant old new t review)

pub returns : goal.returns
returns c old new t review =
    let all = subst (λ (ps : List Place). Counted old new t ps c.loop-slot.count) (take_all c.loop-slot.slot c.args.ingress.now c.loop-slot-test.false) (c.loop-slot.invariant old new t review) in
    record { sections = all.sections; report = all.are; count_is = all.count_is }
