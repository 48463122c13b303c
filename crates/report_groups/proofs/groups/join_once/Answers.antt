use Rattle.std.proofs.Common.{map}
use Rattle.report_groups.specs.Drafts.{shown}
use Rattle.report_groups.proofs.Joins.{joins_more}
use Rattle.report_groups.proofs.groups.join_once.Goals as goal

pub loop-k-preserved : goal.loop-k-preserved
loop-k-preserved c = joins_more c.loop-k.k (map shown c.args.drafts.items) (map shown c.loop-k.joined.items) (map shown c.in_ok-joined.joined.items) c.loop-k.invariant c.in_ok-joined.ensures
