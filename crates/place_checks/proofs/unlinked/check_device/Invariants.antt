use Rattle.std.proofs.Common.{◌≡◌, ◌++◌, take}
use Rattle.std.specs.Prelude.{flat_map}
use Rattle.place_checks.specs.Findings.{interface_unlinked}
use Rattle.place_checks.specs.Sights.{pair_of}
use Rattle.place_checks.proofs.unlinked.check_device.Given as goal

abbrev pub invariant-loop-interface : goal.invariant-loop-interface
invariant-loop-interface l = l.found.items ≡ l.initial.found.items ++ flat_map (interface_unlinked l.added (pair_of l.nets) l.segments.table.now l.device) (take l.interface-index l.interface-items)
