use Rattle.std.proofs.Common.{◌≡◌, ◌++◌, map}
use Rattle.std.specs.Vec.Iter.{into_iter_items}
use Rattle.report_groups.specs.Drafts.{shown, filled_of}
use Rattle.report_groups.proofs.joining.fill.Given as goal

abbrev pub invariant-loop-draft : goal.invariant-loop-draft
invariant-loop-draft l =
    (l.yielded ++ into_iter_items l.draft-iterator ≡ l.fn.drafts.items)
    × (map shown l.filled.items ++ filled_of l.k (map shown (into_iter_items l.draft-iterator)) (map (λ list. list.items) (into_iter_items l.lists))
    ≡ filled_of l.k (map shown l.fn.drafts.items) (map (λ list. list.items) l.fn.lists.items))
