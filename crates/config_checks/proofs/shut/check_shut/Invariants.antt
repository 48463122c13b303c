use Rattle.std.proofs.Common.{◌≡◌, ◌++◌, take}
use Rattle.std.specs.Prelude.{flat_map}
use Rattle.config_checks.specs.Findings.{shut_above}
use Rattle.config_checks.proofs.shut.check_shut.Given as goal

abbrev pub invariant-loop-other : goal.invariant-loop-other
invariant-loop-other l = l.found.items ≡ l.initial.found.items ++ flat_map (shut_above l.interface.name) (take l.other-index l.other-items)
