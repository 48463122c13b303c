use Rattle.net_types.specs.Report.{affected}
use Rattle.net_view.specs.Borrowed.{world_of}
use Rattle.net_compare.proofs.SectionLemmas.{is_section}
use Rattle.net_compare.proofs.alone.section_at.Goals as goal

pub returns-clause-section : goal.returns-clause-section
returns-clause-section c =
    let compared = c.args.compared.now in
    let old = world_of compared.old.now.world in
    let new = world_of compared.new.now.world in
    is_section old new compared.ttl c.args.place c.in_ok-rows.rows.items c.new.result c.new.ensures
    (c.in_ok-rows.ensures (affected old new compared.ttl c.args.place) c.in_ok-given.ensures.given)
