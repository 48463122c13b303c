use Rattle.std.proofs.Common.{take}
use Rattle.report_groups.proofs.GapLemmas.{AreGaps}
use Rattle.report_groups.proofs.gaps.spans_between.Given as goal

abbrev pub invariant-loop-span : goal.invariant-loop-span
invariant-loop-span l = AreGaps l.next (take l.span-index l.spans) l.between.items
