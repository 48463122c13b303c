use Rattle.audit_core.proofs.audits.report_of.Goals as goal
use Rattle.std.proofs.Common.{[], List, refl, subst, arith}
use Rattle.std.proofs.lemmas.List.{take_all}
use Rattle.net_types.specs.declared.config.Loaded.{Loaded}
use Rattle.audit_core.specs.Audits.{Appends, lists_of}
use Rattle.audit_core.proofs.AuditLemmas.{appends_device, whole_audit}

pub loop-device-preserved : goal.loop-device-preserved
loop-device-preserved c =
    let l = c.loop-device in
    appends_device c.args.devices.now l.device-index c.device-item.result [] l.text.items c.append_lists.new.text.items 0 l.count c.in_ok-count.count c.loop-device-test.true c.device-item.is l.invariant (rw c.as_slice-lists.ensures at c.in_ok-count.ensures)

pub returns : goal.returns
returns c =
    let l = c.loop-device in
    let ds = c.args.devices.now in
    let all = subst (λ (xs : List Loaded). Appends (lists_of xs) [] l.text.items 0 l.count) (take_all l.device-index ds (omega arith)) l.invariant in
    whole_audit ds l.text.items l.count _ all c.in_ok-append_total_line.ensures refl
