use Rattle.std.proofs.Common.{◌≡◌, ◌≤◌, map, drop, Global}
use Rattle.std.specs.Prelude.{IfSome, string_bytes}
use Rattle.net_load.specs.Limits.{folder_limit}
use Rattle.doctor_core.specs.Folders.{total}
use Rattle.doctor_core.proofs.FileSteps.{Goes}
use Rattle.doctor_core.proofs.reading.read_files.Given as goal

abbrev pub invariant-loop-name : goal.invariant-loop-name
invariant-loop-name g l = record {
  same : g.F.Files.told l.files ≡ g.F.Files.told l.initial.files;
  later : g.F.Files.faults l.initial.files ≤ g.F.Files.faults l.files;
  sum : l.sum ≡ total l.read;
  within : l.sum ≤ folder_limit;
  goes : IfSome (g.F.Files.told l.initial.files) (Goes l.folder (map (string_bytes {Z = Global}) l.names) l.read (map (string_bytes {Z = Global}) (drop l.name-index l.names)));
}
