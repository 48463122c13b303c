use Rattle.std.proofs.Common.{All}
use Rattle.list_tables.specs.Made.{IsMadeList}
use Rattle.list_tables.proofs.shares.made_in.Given as goal

abbrev pub invariant-loop-list : goal.invariant-loop-list
invariant-loop-list l = record {
  made : All (IsMadeList l.table l.both) l.lists.items;
}
