use Rattle.std.proofs.Common.{map, length}
use Rattle.std.specs.List.{flat_map, AllByRecursion}
use Rattle.std.specs.List.Sorted.{IsPermutation}
use Rattle.report_groups.specs.Groups.{cells_of, HasRows}
use Rattle.report_groups.specs.Drafts.{shown}
use Rattle.report_groups.proofs.groups.settle.Given as goal

abbrev pub invariant-loop-drafts : goal.invariant-loop-drafts
invariant-loop-drafts l =
    IsPermutation (flat_map cells_of (map shown l.fn.drafts.items)) (flat_map cells_of (map shown l.drafts.items))
    × (AllByRecursion HasRows (map shown l.fn.drafts.items) → AllByRecursion HasRows (map shown l.drafts.items))

abbrev pub decreases-loop-drafts : goal.decreases-loop-drafts
decreases-loop-drafts l = length l.drafts.items
