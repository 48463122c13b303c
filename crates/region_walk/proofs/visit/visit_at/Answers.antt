use Rattle.std.proofs.Common.{◌≡◌, map, refl, sym, subst, ◌∙◌}
use Rattle.std.specs.Prelude.{filter_map}
use Rattle.std.specs.List.{AllByRecursion}
use Rattle.cube_alg.specs.Stamps.{IsMadeFrom}
use Rattle.net_forms.specs.Worlds.{world_in}
use Rattle.transfer_rel.specs.CubeMoves.{OfCubeMoves}
use Rattle.region_walk.specs.declared.visit.Visit.{Visit}
use Rattle.region_walk.specs.Lists.{AddsFrom, AreNumbersOf}
use Rattle.region_walk.specs.Spots.{stamp_of, IsSpot, relative, next_spot}
use Rattle.region_walk.specs.Visits.{IsVisit}
use Rattle.region_walk.proofs.NumberLemmas.{extends_adds, adds_keep}
use Rattle.region_walk.specs.Divisions.{HasOtherEntriesAfter}
use Rattle.region_walk.proofs.DivisionLemmas.{other_entries_after}
use Rattle.region_walk.proofs.RelativeMoves.{visit_is, next_are_spots}
use Rattle.region_walk.proofs.visit.visit_at.Goals as goal

pub returns-in-Divides-clause-seen : goal.returns-in-Divides-clause-seen
returns-in-Divides-clause-seen c =
    let w = world_in c.args.prepared.now c.args.version in
    let k = c.args.cube.now in
    let s = c.args.spot.now in
    let on = subst (OfCubeMoves w s.place c.forth.result) c.in-Divides.is c.in_ok-bit.ensures in (
      (on.0.0, c.forth.ensures.stars c.in-Divides.bit on.0.1),
      subst (λ t. HasOtherEntriesAfter w s.place t k) c.stamp-stamp.ensures (other_entries_after w s.place c.stamp-stamp.result k c.forth.result (λ h i. (c.forth.ensures.made h i).0) on.1),
    )

pub returns-in_ok-next-in-All-clause-seen : goal.returns-in_ok-next-in-All-clause-seen
returns-in_ok-next-in-All-clause-seen c =
    let w = world_in c.args.prepared.now c.args.version in
    let k = c.args.cube.now in
    let g = c.args.first.now in
    let s = c.args.spot.now in
    let v : Visit = record { spot = s; moves = c.new.result; next = c.new-in-All.result } in
    let on = subst (OfCubeMoves w s.place c.forth.result) c.in-All.is c.in_ok-bit.ensures in
    let told : c.new.result ≡ map (relative g (stamp_of s)) c.in-All.moves =
    c.new.ensures ∙ c.in_ok-moves-in-All.ensures ∙ (λ i. map (relative g (c.stamp-stamp.ensures i)) (c.as_slice.ensures i)) in
    record {
      same = refl;
      right = visit_is w k c.forth.result g v c.in-All.moves c.requires.base c.requires.spot
          (λ h i made. (c.forth.ensures.made h i).1 (subst (λ t. IsMadeFrom t k h) (sym c.stamp-stamp.ensures) made))
          on told;
      numbers = subst (λ ns. AreNumbersOf c.numbers_of.new.spots.keys ns (filter_map next_spot c.new.result)) (sym c.new-in-All.ensures)
          (subst (λ ms. AreNumbersOf c.numbers_of.new.spots.keys c.in_ok-next-in-All.next.items (filter_map next_spot ms)) (c.deref.ensures.value ∙ sym c.new.ensures) c.in_ok-next-in-All.ensures.numbers);
      adds = subst (λ ms. AddsFrom (filter_map next_spot ms) c.args.spots.now.keys c.numbers_of.new.spots.keys) (c.deref.ensures.value ∙ sym c.new.ensures) c.in_ok-next-in-All.ensures.adds;
    }

pub returns-in_ok-next-in-All-clause-grows : goal.returns-in_ok-next-in-All-clause-grows
returns-in_ok-next-in-All-clause-grows c =
    let w = world_in c.args.prepared.now c.args.version in
    let k = c.args.cube.now in
    let g = c.args.first.now in
    let s = c.args.spot.now in
    let v : Visit = record { spot = s; moves = c.new.result; next = c.new-in-All.result } in
    let on = subst (OfCubeMoves w s.place c.forth.result) c.in-All.is c.in_ok-bit.ensures in
    let told : c.new.result ≡ map (relative g (stamp_of s)) c.in-All.moves =
    c.new.ensures ∙ c.in_ok-moves-in-All.ensures ∙ (λ i. map (relative g (c.stamp-stamp.ensures i)) (c.as_slice.ensures i)) in
    let right : IsVisit w k g v = visit_is w k c.forth.result g v c.in-All.moves c.requires.base c.requires.spot
    (λ h i made. (c.forth.ensures.made h i).1 (subst (λ t. IsMadeFrom t k h) (sym c.stamp-stamp.ensures) made))
    on told in
    let adds = c.in_ok-next-in-All.ensures.adds in
    let items = filter_map next_spot c.deref.result.now in
    record {
      extends = extends_adds items c.args.spots.now.keys c.numbers_of.new.spots.keys adds;
      once = adds.once;
      kept = adds_keep (IsSpot k g) items c.args.spots.now.keys c.numbers_of.new.spots.keys adds
          (subst (λ ms. AllByRecursion (IsSpot k g) (filter_map next_spot ms)) (c.new.ensures ∙ sym c.deref.ensures.value) (next_are_spots w k g v right))
          c.requires.spots;
    }
