use Rattle.audit_core.proofs.audits.append_list.Goals as goal
use Rattle.std.proofs.Common.{◌+◌, length, ap, sym, ◌∙◌}
use Rattle.audit_core.proofs.AuditLemmas.{appends_one}

pub returns : goal.returns
returns c =
    appends_one c.args.file.now c.args.list.now c.in_ok-findings.findings.items c.args.text.now.items c.append_findings.new.out.items c.args.before c.in-Some.count c.in_ok-findings.ensures (rw c.deref.ensures.value at c.in_ok-append_findings.ensures) (c.in-Some.ensures.1 ∙ ap (λ n. c.args.before + n) (c.len.ensures ∙ (sym c.deref.ensures.len ∙ ap length c.deref.ensures.value)))
