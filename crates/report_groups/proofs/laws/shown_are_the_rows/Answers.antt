use Rattle.report_groups.proofs.Showing.{shown_in_rows}
use Rattle.report_groups.proofs.laws.shown_are_the_rows.Goals as goal

pub returns : goal.returns
returns c = λ rows entries are h is. shown_in_rows h is rows entries are
