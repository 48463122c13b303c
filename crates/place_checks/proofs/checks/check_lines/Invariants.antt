use Rattle.std.proofs.Common.{◌≡◌, ◌++◌, take}
use Rattle.std.specs.Prelude.{flat_map}
use Rattle.place_checks.specs.Findings.{line_findings}
use Rattle.place_checks.specs.Sights.{pair_of}
use Rattle.place_checks.proofs.checks.check_lines.Given as goal

abbrev pub invariant-loop-line : goal.invariant-loop-line
invariant-loop-line l = l.found.items ≡ l.initial.found.items ++ flat_map (line_findings (pair_of l.nets)) (take l.line-index l.lines)
