use Rattle.std.proofs.Common.{take}
use Rattle.report_groups.specs.Values.{HoldSame}
use Rattle.report_groups.proofs.spans.parted.Given as goal

abbrev pub invariant-loop-pattern : goal.invariant-loop-pattern
invariant-loop-pattern l = HoldSame l.width (take l.pattern-index l.patterns) l.spans.items l.others.items
