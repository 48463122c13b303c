use Rattle.std.proofs.Common.{Option, get_or, sym, subst, ◌∙◌}
use Rattle.std.proofs.lemmas.Option.{slice_get-get_or}
use Rattle.std.specs.Vec.Iter.{into_iter_items}
use Rattle.net_types.specs.declared.network.Place.{Place}
use Rattle.net_types.specs.Report.{IsSection, affected}
use Rattle.pair_rows.specs.Pairs.{AreRowsWithPairs}
use Rattle.net_compare.specs.Slots.{affected_at}
use Rattle.net_compare.proofs.SectionLemmas.{zip_more, next_there, next_rest, is_section}
use Rattle.net_compare.proofs.known.sections_of.Goals as goal

pub loop-place-preserved : goal.loop-place-preserved
loop-place-preserved c =
    let i = c.loop-place.place-index in
    let steps = sym c.loop-place.invariant.rest ∙ c.in-Some.ensures.items in
    let test = c.loop-place-test.true in
    record {
      rest = next_rest c.args.all.items i c.in-Some.slot (into_iter_items c.next.new.self) steps;
      sections = λ old new t rows.
          let place : Place = get_or c.args.ingress.now i (record { device = 0; interface = 0 }) in
          let slot = rows.rows i c.in-Some.slot (next_there c.args.all.items i c.in-Some.slot (into_iter_items c.next.new.self) steps) in
          let own : AreRowsWithPairs (affected old new t place) c.in-Some.slot.rows.items = subst (λ (o : Option Place). AreRowsWithPairs (affected_at old new t o) c.in-Some.slot.rows.items) (slice_get-get_or c.args.ingress.now i (record { device = 0; interface = 0 }) test) slot in
          let section : IsSection old new t place (record { place = place; rows = c.new.result }) = is_section old new t place c.in-Some.slot.rows.items c.new.result c.new.ensures own in
          rw c.in_ok-push.ensures.items (zip_more (IsSection old new t) c.args.ingress.now c.loop-place.sections.items i (record { device = 0; interface = 0 }) (record { place = place; rows = c.new.result }) test (c.loop-place.invariant.sections old new t rows) section);
    }
