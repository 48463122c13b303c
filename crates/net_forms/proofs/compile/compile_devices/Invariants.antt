use Rattle.std.proofs.Common.{take}
use Rattle.std.specs.Prelude.{IfSome}
use Rattle.net_forms.specs.Forms.{TablesGrow}
use Rattle.net_forms.specs.Known.{AreKnownBefore}
use Rattle.net_forms.specs.Networks.{AreDevices, IsNetworkForm}
use Rattle.net_forms.proofs.compile.compile_devices.Given as goal

abbrev pub invariant-loop-i : goal.invariant-loop-i
invariant-loop-i l = record {
  kept : TablesGrow l.fn.tables l.tables;
  known : IfSome l.known (λ n. IsNetworkForm l.tables.diagrams l.tables.fates n.now);
  before : AreKnownBefore l.tables.diagrams l.tables.fates l.devices l.before;
  forms : AreDevices l.tables.diagrams l.tables.fates (take l.i l.devices) l.forms.items;
}
