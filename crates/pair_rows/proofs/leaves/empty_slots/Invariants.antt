use Rattle.std.proofs.Common.{◌≡◌, [], length}
use Rattle.pair_rows.specs.Slots.{AreSorted}
use Rattle.pair_rows.proofs.leaves.empty_slots.Given as goal

abbrev pub invariant-loop : goal.invariant-loop
invariant-loop g l = record {
  count : length l.all.items ≡ l.counter;
  empty : AreSorted [] l.all.items;
}
