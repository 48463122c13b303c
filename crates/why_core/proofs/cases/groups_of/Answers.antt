use Rattle.why_core.proofs.CaseLemmas.{more_groups}
use Rattle.why_core.proofs.cases.groups_of.Goals as goal

pub loop-section-preserved : goal.loop-section-preserved
loop-section-preserved c =
    more_groups c.args.sections.now c.loop-section.section-index c.section-item.result c.loop-section.groups.items c.push.new.self.items c.in_ok-group_rows.field-0
    c.loop-section-test.true c.section-item.is c.in_ok-push.ensures.items c.loop-section.invariant (rw c.as_slice.ensures at c.in_ok-group_rows.ensures)
