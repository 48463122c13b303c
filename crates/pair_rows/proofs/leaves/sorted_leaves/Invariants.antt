use Rattle.std.proofs.Common.{◌≡◌, ◌++◌, List, length}
use Rattle.std.specs.Prelude.{⊤}
use Rattle.task_board.specs.declared.leaf.Leaf.{Leaf}
use Rattle.pair_rows.specs.Slots.{AreSorted}
use Rattle.pair_rows.proofs.leaves.sorted_leaves.Given as goal

abbrev pub invariant-loop-leaf : goal.invariant-loop-leaf
invariant-loop-leaf g l = record {
  count : length l.all.items ≡ l.slots;
  done : List (Leaf ⊤);
  steps : done ++ l.leaves.items ≡ l.fn.leaves.items;
  sorted : AreSorted done l.all.items;
}

abbrev pub decreases-loop-leaf : goal.decreases-loop-leaf
decreases-loop-leaf g l = length l.leaves.items
