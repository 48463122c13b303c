use Rattle.std.proofs.Common.{◌++◌, ap, ◌∙◌, arith}
use Rattle.place_checks.proofs.Firsts.{push_flat}
use Rattle.doctor_warnings.specs.Texts.{counted_line, counted_if_any}
use Rattle.doctor_warnings.proofs.note_text.append_counted.Goals as goal

pub loop-row-preserved : goal.loop-row-preserved
loop-row-preserved c =
    let rows = c.args.rows.now in
    let row = c.row-item.result in
    let told = counted_line c.args.lines.now in
    c.in_ok-append_row.ensures ∙ ap (λ o. c.loop-row.out.items ++ counted_if_any row o) c.line_in.ensures ∙ ap (λ l. l ++ told row) c.loop-row.invariant
    ∙ push_flat c.args.out.now.items rows c.loop-row.row-index row (omega arith) c.row-item.is told
