use Rattle.std.proofs.Common.{map}
use Rattle.report_groups.specs.Drafts.{shown, IsFilled}
use Rattle.report_groups.specs.Groups.{AreDistinct}
use Rattle.report_groups.proofs.joining.gather.Given as goal

abbrev pub invariant-loop-draft : goal.invariant-loop-draft
invariant-loop-draft l = IsFilled l.k (map shown l.yielded) l.joining.0 l.joining.1 × AreDistinct l.joining.0
