use Rattle.std.proofs.Common.{All}
use Rattle.list_tables.specs.Made.{IsMadeFates}
use Rattle.list_tables.proofs.fates.made_in.Given as goal

abbrev pub invariant-loop-one : goal.invariant-loop-one
invariant-loop-one l = record {
  made : All (IsMadeFates l.tables l.devices) l.made.items;
}
