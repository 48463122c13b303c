use Rattle.std.proofs.Common.{◌++◌, ap}
use Rattle.std.specs.Prelude.{length}
use Rattle.std.proofs.lemmas.Grind.{flat_map-append}
use Rattle.std.proofs.lemmas.List.Sums.{sum_by-append}
use Rattle.net_types.specs.Report.{IsSection}
use Rattle.report_text.specs.ReportText.{affected_text, report_text, section_text}
use Rattle.review_core.proofs.Reports.{zip_behind}
use Rattle.review_core.proofs.laws.reports_are_joined.Goals as goal

pub returns-clause-sections : goal.returns-clause-sections
returns-clause-sections c before after old new t front rest a b = zip_behind (IsSection old new t) before after front rest a b

pub returns-clause-text : goal.returns-clause-text
unfolding report_text
returns-clause-text c names front rest = ap (λ text. text ++ affected_text (front ++ rest)) (flat_map-append (section_text names) front rest)

pub returns-clause-rows : goal.returns-clause-rows
returns-clause-rows c front rest = sum_by-append (λ s. length s.rows) front rest
