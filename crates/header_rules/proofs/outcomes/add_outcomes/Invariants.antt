use Rattle.std.proofs.Common.{◌≡◌, ◌++◌, take}
use Rattle.std.specs.Prelude.{filter_map}
use Rattle.header_rules.specs.Outcomes.{outcome_by}
use Rattle.header_rules.proofs.outcomes.add_outcomes.Given as goal

abbrev pub invariant-loop-one : goal.invariant-loop-one
invariant-loop-one l = l.found.items ≡ l.initial.found.items ++ filter_map (outcome_by l.first l.last) (take l.one-index l.moves)
