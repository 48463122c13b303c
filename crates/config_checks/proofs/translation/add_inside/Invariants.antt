use Rattle.std.proofs.Common.{◌≡◌, ◌++◌, map, take}
use Rattle.config_checks.specs.declared.finding.ConfigFinding.TheVariants as ConfigFinding
use Rattle.config_checks.proofs.translation.add_inside.Given as goal

abbrev pub invariant-loop-local : goal.invariant-loop-local
invariant-loop-local l = l.found.items ≡ l.fn.found.items ++ map ConfigFinding.NotInside (take l.local-index l.addresses)
