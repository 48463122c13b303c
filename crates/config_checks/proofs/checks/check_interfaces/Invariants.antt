use Rattle.std.proofs.Common.{◌≡◌, ◌++◌, take}
use Rattle.std.specs.Prelude.{flat_map}
use Rattle.config_checks.specs.Findings.{interface_findings}
use Rattle.config_checks.proofs.checks.check_interfaces.Given as goal

abbrev pub invariant-loop-interface : goal.invariant-loop-interface
invariant-loop-interface l = l.found.items ≡ l.initial.found.items ++ flat_map (interface_findings l.config) (take l.interface-index l.interface-items)
