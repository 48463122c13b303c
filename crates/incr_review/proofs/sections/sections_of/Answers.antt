use Rattle.std.proofs.Common.{sym, subst, List, take, ◌+◌, get_or}
use Rattle.std.specs.List.{AllZip}
use Rattle.net_types.specs.declared.network.Place.{Place}
use Rattle.net_types.specs.declared.network.Row.{Row}
use Rattle.net_types.specs.declared.network.Section.{Section}
use Rattle.net_types.specs.Report.{IsSection, affected}
use denote.Ref.{Bor}
use Rattle.incr_review.specs.declared.regions.Region.{Region}
use Rattle.incr_review.specs.Sections.{AreDiffering, AreRowsAt, regions_at}
use Rattle.incr_review.proofs.RegionLemmas.{at_default}
use Rattle.incr_review.proofs.SectionLemmas.{pairs_given, pairs_whole, sections_more, is_section}
use Rattle.incr_review.proofs.sections.sections_of.Goals as goal

pub rows_at-requires : goal.rows_at-requires
rows_at-requires c =
    let differing = subst (λ (xs : List (Bor Region)). AreDiffering c.args.regions.now (regions_at xs)) (sym c.deref.ensures.value) c.in_ok-differing.ensures in
    λ r m. c.requires r (differing.from r m)

pub loop-slot-preserved : goal.loop-slot-preserved
loop-slot-preserved c old new t review =
    let ingress = c.args.ingress.now in
    let i = c.loop-slot.slot in
    let d : Place = record { device = 0; interface = 0 } in
    let p = get_or ingress i d in
    let l = c.loop-slot-test.true in
    let rows = c.in_ok-rows.rows in
    let at = subst (λ (xs : List (Bor Region)). AreRowsAt c.args.table.now i (regions_at xs) rows.items) c.deref.ensures.value c.in_ok-rows.ensures in
    let f = pairs_given old new t ingress c.args.table.now c.args.regions.now i p at.given (at_default ingress i d l) l review (pairs_whole c.args.table.now i c.args.regions.now (regions_at c.in_ok-differing.differing.items) at.given c.in_ok-differing.ensures at.pairs) in
    let section : IsSection old new t p (record { place = p; rows = c.new.result }) = subst (λ (rs : List Row). IsSection old new t p (record { place = p; rows = rs })) (sym c.new.ensures) (is_section old new t p rows.items (at.right (affected old new t p) f)) in
    subst (λ (ss : List Section). AllZip (IsSection old new t) (take (i + 1) ingress) ss) (sym c.in_ok-push.ensures.items)
    (sections_more old new t ingress i d c.loop-slot.sections.items (record { place = p; rows = c.new.result }) l (c.loop-slot.invariant old new t review) section)
