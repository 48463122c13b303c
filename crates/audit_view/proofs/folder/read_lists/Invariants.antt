use Rattle.std.proofs.Common.{◌≡◌, ◌≤◌}
use Rattle.audit_view.proofs.Nets.{AreRead}
use Rattle.audit_view.proofs.folder.read_lists.Given as goal

abbrev pub invariant-loop-device : goal.invariant-loop-device
invariant-loop-device g l = record {
  same : g.F.Files.told l.files ≡ g.F.Files.told l.initial.files;
  later : g.F.Files.faults l.initial.files ≤ g.F.Files.faults l.files;
  found : AreRead (g.F.Files.told l.initial.files) l.net l.devices l.device-index l.found.items;
}
