use Rattle.std.proofs.Common.{◌≡◌, ◌++◌, take, map}
use Rattle.why_core.specs.Cases.{case_in, cases_at}
use Rattle.why_core.proofs.cases.add_ordered.Given as goal

abbrev pub invariant-loop-entry : goal.invariant-loop-entry
invariant-loop-entry l =
    map case_in l.found.items ≡ map case_in l.initial.found.items ++ cases_at l.section l.place (map (λ e. e.now) (take l.entry-index l.entries))
