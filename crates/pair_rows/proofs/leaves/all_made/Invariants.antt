use Rattle.std.proofs.Common.{◌≡◌, ◌++◌, Some, map}
use Rattle.std.specs.Vec.Iter.{into_iter_items}
use Rattle.pair_rows.proofs.leaves.all_made.Given as goal

abbrev pub invariant-loop-slot : goal.invariant-loop-slot
invariant-loop-slot g l = record {
  steps : l.yielded ++ into_iter_items l.slot-iterator ≡ l.fn.made.items;
  made : map (λ s. Some s.rows) l.all.items ≡ map (λ m. m.rows) l.yielded;
}
