use Rattle.std.proofs.Common.{◌≡◌, ◌++◌, reverse}
use Rattle.indexmap.specs.IndexSet.{index_set_len}
use Rattle.report_groups.proofs.joining.drafts_of.Given as goal

abbrev pub invariant-loop-draft : goal.invariant-loop-draft
invariant-loop-draft l = l.keys.keys ++ reverse l.drafts.items ≡ l.fn.keys.keys

abbrev pub decreases-loop-draft : goal.decreases-loop-draft
decreases-loop-draft l = index_set_len l.keys
