use Rattle.std.proofs.Common.{◌≡◌, take}
use Rattle.place_checks.specs.Strays.{stray_findings}
use Rattle.place_checks.specs.Sights.{pair_of}
use Rattle.place_checks.proofs.strays.stray_findings.Given as goal

abbrev pub invariant-loop-line : goal.invariant-loop-line
invariant-loop-line l = l.found.items ≡ stray_findings (pair_of l.nets) (take l.line-index l.lines)
