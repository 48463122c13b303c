use Rattle.std.proofs.Common.{◌≡◌, ◌++◌, codes, take, flat_map}
use Rattle.report_text.specs.ReportText.{outcome_text}
use Rattle.view_core.proofs.text.append_outcomes.Given as goal

abbrev pub invariant-loop-outcome : goal.invariant-loop-outcome
invariant-loop-outcome l =
    l.out.items ≡ l.initial.out.items ++ flat_map (λ y. codes " | " ++ outcome_text l.names y) (take l.outcome-index l.rest)
