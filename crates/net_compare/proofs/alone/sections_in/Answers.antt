use Rattle.std.proofs.Common.{get_or}
use Rattle.set_walk.proofs.SetLemmas.{keeps_then}
use Rattle.net_types.specs.declared.network.Place.{Place}
use Rattle.net_types.specs.Report.{IsSection}
use Rattle.net_view.specs.Borrowed.{world_of}
use Rattle.net_compare.proofs.SectionLemmas.{zip_more}
use Rattle.net_compare.proofs.WalkableLemmas.{walkable_kept}
use Rattle.net_compare.proofs.alone.sections_in.Goals as goal

pub section_at-requires : goal.section_at-requires
section_at-requires c = walkable_kept c.args.table.now c.loop-place.table c.args.compared.now c.loop-place.invariant.kept c.requires

pub loop-place-preserved : goal.loop-place-preserved
loop-place-preserved c =
    let l = c.loop-place in
    let i = l.place-index in
    let compared = c.args.compared.now in
    let old = world_of compared.old.now.world in
    let new = world_of compared.new.now.world in
    let o = c.in_ok-section.ensures in
    let none : Place = record { device = 0; interface = 0 } in
    let own : IsSection old new compared.ttl (get_or compared.ingress.now i none) c.in_ok-section.section = o.section in
    record {
      kept = keeps_then c.args.table.now l.table c.section_at.new.table l.invariant.kept o.kept;
      sections = rw c.in_ok-push.ensures.items (zip_more (IsSection old new compared.ttl) compared.ingress.now l.sections.items i none c.in_ok-section.section c.loop-place-test.true l.invariant.sections own);
    }
