use Rattle.std.proofs.Common.{◌≡◌, ◌++◌, drop, map}
use Rattle.why_core.specs.Cases.{case_in, cases}
use Rattle.why_core.proofs.cases.cases_of.Given as goal

-- the cases so far and those to come are all
abbrev pub invariant-loop-i : goal.invariant-loop-i
invariant-loop-i l =
    map case_in l.found.items ++ cases (drop l.i l.sections) (drop l.i l.ingress) (map (λ v. v.items) (drop l.i l.groups))
    ≡ cases l.sections l.ingress (map (λ v. v.items) l.groups)
