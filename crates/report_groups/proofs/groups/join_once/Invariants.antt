use Rattle.std.proofs.Common.{map}
use Rattle.report_groups.specs.Drafts.{shown, JoinsBelow}
use Rattle.report_groups.proofs.groups.join_once.Given as goal

abbrev pub invariant-loop-k : goal.invariant-loop-k
invariant-loop-k l = JoinsBelow l.k (map shown l.fn.drafts.items) (map shown l.joined.items)
