use Rattle.std.proofs.Common.{◌≡◌, ◌++◌, take}
use Rattle.std.specs.Prelude.{flat_map}
use Rattle.place_checks.specs.Findings.{device_unlinked}
use Rattle.place_checks.specs.Sights.{pair_of}
use Rattle.place_checks.proofs.unlinked.check_folder.Given as goal

abbrev pub invariant-loop-device : goal.invariant-loop-device
invariant-loop-device l = l.found.items ≡ l.initial.found.items ++ flat_map (device_unlinked l.added (pair_of l.nets) l.segments.table.now) (take l.device-index l.folder)
