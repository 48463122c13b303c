use Rattle.std.proofs.Common.{◌≡◌, ◌++◌, take}
use Rattle.std.specs.Prelude.{flat_map}
use Rattle.config_checks.specs.Findings.{wildcard_findings}
use Rattle.config_checks.proofs.checks.check_entries.Given as goal

abbrev pub invariant-loop-list : goal.invariant-loop-list
invariant-loop-list l = l.found.items ≡ l.initial.found.items ++ flat_map (wildcard_findings) (take l.list-index l.list-items)
