use Rattle.audit_core.proofs.audits.append_lists.Goals as goal
use Rattle.audit_core.proofs.AuditLemmas.{appends_list}

pub loop-list-preserved : goal.loop-list-preserved
loop-list-preserved c =
    let l = c.loop-list in
    appends_list c.args.file.now c.args.lists.now l.list-index c.list-item.result c.args.text.now.items l.text.items c.append_list.new.text.items _ l.count c.in_ok-count.count c.loop-list-test.true c.list-item.is l.invariant c.in_ok-count.ensures
