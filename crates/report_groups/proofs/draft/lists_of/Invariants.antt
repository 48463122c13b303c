use Rattle.std.proofs.Common.{◌≡◌, map}
use Rattle.report_groups.proofs.draft.lists_of.Given as goal

abbrev pub invariant-loop-patterns : goal.invariant-loop-patterns
invariant-loop-patterns l = l.lists.items ≡ map (λ f. f.items) l.yielded
