use Rattle.std.proofs.Common.{◌≡◌, ◌++◌, take}
use Rattle.std.specs.Prelude.{flat_map}
use Rattle.config_checks.specs.Findings.{unused_findings}
use Rattle.config_checks.proofs.checks.check_uses.Given as goal

abbrev pub invariant-loop-list : goal.invariant-loop-list
invariant-loop-list l = l.found.items ≡ l.initial.found.items ++ flat_map (unused_findings l.config l.elsewhere) (take l.list-index l.list-items)
