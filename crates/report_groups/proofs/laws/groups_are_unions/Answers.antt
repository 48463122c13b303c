use Rattle.report_groups.proofs.Unions.{group_is_union}
use Rattle.report_groups.proofs.laws.groups_are_unions.Goals as goal

pub returns : goal.returns
returns c = group_is_union
