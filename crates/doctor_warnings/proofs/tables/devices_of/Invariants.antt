use Rattle.std.proofs.Common.{◌≡◌, false, map}
use Rattle.std.specs.List.{list_any}
use Rattle.doctor_warnings.specs.Tables.{is_refused, loaded_file}
use Rattle.doctor_warnings.proofs.tables.devices_of.Given as goal

abbrev pub invariant-loop-file : goal.invariant-loop-file
invariant-loop-file l = record {
  refused : l.refused ≡ list_any is_refused (map (λ e. e.file) l.yielded);
  devices : l.refused ≡ false → l.devices.items ≡ map loaded_file (map (λ e. e.file) l.yielded);
}
