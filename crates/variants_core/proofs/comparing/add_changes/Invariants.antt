use Rattle.std.proofs.Common.{◌≡◌, ◌++◌, take}
use Rattle.variants_core.proofs.comparing.add_changes.Given as goal

abbrev pub invariant-loop-change : goal.invariant-loop-change
invariant-loop-change l = l.all.items ≡ l.initial.all.items ++ take l.change-index l.changes
