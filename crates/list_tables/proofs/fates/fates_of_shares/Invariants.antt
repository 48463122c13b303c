use Rattle.net_forms.specs.Forms.{TablesGrow}
use Rattle.net_forms.specs.Known.{AreKnownFates}
use Rattle.list_tables.proofs.fates.fates_of_shares.Given as goal

abbrev pub invariant-loop-share : goal.invariant-loop-share
invariant-loop-share l = record {
  kept : TablesGrow l.fn.tables l.tables;
  fates : AreKnownFates l.tables.diagrams l.tables.fates l.devices l.fates.items;
}
