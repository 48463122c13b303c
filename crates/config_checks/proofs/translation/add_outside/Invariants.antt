use Rattle.std.proofs.Common.{◌≡◌, ◌++◌, map, take}
use Rattle.config_checks.specs.declared.finding.ConfigFinding.TheVariants as ConfigFinding
use Rattle.config_checks.proofs.translation.add_outside.Given as goal

abbrev pub invariant-loop-global : goal.invariant-loop-global
invariant-loop-global l = l.found.items ≡ l.fn.found.items ++ map ConfigFinding.NotOutside (take l.global-index l.addresses)
