use Rattle.std.proofs.Common.{map}
use Rattle.report_groups.specs.Drafts.{shown}
use Rattle.report_groups.proofs.Joins.{filled_joins}
use Rattle.report_groups.proofs.joining.join.Goals as goal

pub returns : goal.returns
returns c =
    let j = c.in_ok-joining.joining in
    filled_joins c.args.k (map shown c.args.drafts.items) j.0 j.1 (map shown c.in_ok-joined.joined.items) c.in_ok-joining.ensures.filled c.in_ok-joining.ensures.distinct c.in_ok-joined.ensures
