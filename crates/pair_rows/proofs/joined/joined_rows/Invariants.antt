use Rattle.std.proofs.Common.{◌++◌}
use Rattle.std.specs.List.Sorted.{IsPermutation}
use Rattle.std.specs.Vec.Iter.{into_iter_items}
use Rattle.pair_rows.specs.Pairs.{AreRowsFor}
use Rattle.pair_rows.specs.Slots.{HoldsHeader}
use Rattle.pair_rows.proofs.joined.joined_rows.Given as goal

abbrev pub invariant-loop-leaf : goal.invariant-loop-leaf
invariant-loop-leaf g l = record {
  moved : IsPermutation l.fn.leaves.items (l.yielded ++ into_iter_items l.leaf-iterator);
  rows : AreRowsFor (g.K.Pairing.gives l.slot) (HoldsHeader l.slot l.yielded) l.rows.items;
}
