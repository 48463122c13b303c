use Rattle.std.proofs.Common.{List}
use Rattle.net_types.specs.declared.network.NetDevice.{NetDevice}
use Rattle.net_forms.specs.Known.{AreKnownFates}
use Rattle.list_tables.specs.Made.{IsFateShare}
use Rattle.list_tables.proofs.fates.add_fates.Given as goal

abbrev pub invariant-loop-made : goal.invariant-loop-made
invariant-loop-made l = record {
  known : (ds : List NetDevice) → IsFateShare ds l.share → AreKnownFates l.fn.tables.diagrams l.fn.tables.fates ds l.fn.known.items → AreKnownFates l.tables.diagrams l.tables.fates ds l.known.items;
}
