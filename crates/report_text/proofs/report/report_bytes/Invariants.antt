use Rattle.std.proofs.Common.{◌≡◌, take, flat_map}
use Rattle.report_text.specs.ReportText.{section_text}
use Rattle.report_text.proofs.report.report_bytes.Given as goal

abbrev pub invariant-loop-section : goal.invariant-loop-section
invariant-loop-section l = l.text.items ≡ flat_map (section_text l.names) (take l.section-index l.sections)
