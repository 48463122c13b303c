use Rattle.std.proofs.Common.{length}
use Rattle.report_groups.proofs.groups.+count_choices.Given as goal

abbrev pub decreases-count_choices : goal.decreases-count_choices
decreases-count_choices l = length l.fields.now
