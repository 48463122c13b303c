use Rattle.std.proofs.Common.{◌≡◌, ◌++◌, take}
use Rattle.std.specs.Prelude.{flat_map}
use Rattle.config_checks.specs.Findings.{entry_findings}
use Rattle.config_checks.proofs.lists.check_wildcards.Given as goal

abbrev pub invariant-loop-entry : goal.invariant-loop-entry
invariant-loop-entry l = l.found.items ≡ l.initial.found.items ++ flat_map (entry_findings l.list.name) (take l.entry-index l.entry-items)
