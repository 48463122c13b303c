use Rattle.std.proofs.Common.{◌++◌, ap, ◌∙◌, arith}
use Rattle.place_checks.proofs.Firsts.{push_flat}
use Rattle.doctor_warnings.specs.Texts.{limit_line, limit_by}
use Rattle.doctor_warnings.proofs.note_text.append_limits.Goals as goal

pub loop-row-preserved : goal.loop-row-preserved
loop-row-preserved c =
    let rows = c.args.rows.now in
    let row = c.row-item.result in
    let told = limit_line c.args.asked c.args.limits.now in
    c.in_ok-append_limit_if.ensures ∙ ap (λ o. c.loop-row.out.items ++ limit_by c.args.asked row o) c.limit_in.ensures ∙ ap (λ l. l ++ told row) c.loop-row.invariant
    ∙ push_flat c.args.out.now.items rows c.loop-row.row-index row (omega arith) c.row-item.is told
