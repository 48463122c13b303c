use Rattle.std.proofs.Common.{◌≡◌, ◌++◌, take}
use Rattle.std.specs.Prelude.{flat_map}
use Rattle.place_checks.specs.Findings.{sight_findings, sight_of}
use Rattle.place_checks.specs.Sights.{seen, pair_of}
use Rattle.place_checks.proofs.ends.check_line.Given as goal

abbrev pub invariant-loop-end : goal.invariant-loop-end
invariant-loop-end l = l.found.items ≡ l.initial.found.items ++ flat_map (λ e. sight_findings (pair_of l.nets) (seen l.first) (sight_of (pair_of l.nets) l.first.line e)) (take l.end-index l.ends)
