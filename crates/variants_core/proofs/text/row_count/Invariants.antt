use Rattle.std.proofs.Common.{◌≡◌, ◌*◌, ◌^◌, ◌≤◌, take}
use Rattle.report_text.specs.ReportText.{row_count}
use Rattle.variants_core.proofs.text.row_count.Given as goal

abbrev pub invariant-loop-section : goal.invariant-loop-section
invariant-loop-section l = record {
  counted : l.rows ≡ row_count (take l.section-index l.sections);
  small : l.rows ≤ 2 ^ 64 * l.section-index;
}
