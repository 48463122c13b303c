use Rattle.std.proofs.Common.{take, length, ◌≡◌}
use Rattle.net_compare.specs.Classes.{differing_at}
use Rattle.net_compare.specs.Rows.{AreTold}
use Rattle.net_compare.proofs.pairs.pairs_of.Given as goal

abbrev pub invariant-loop-two : goal.invariant-loop-two
invariant-loop-two l = record {
  told : AreTold (differing_at l.old l.new) l.pairs (take l.two-index l.numbers) l.told.items;
  count : length l.told.items ≡ length (take l.two-index l.numbers);
}
