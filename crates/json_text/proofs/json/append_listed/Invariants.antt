use Rattle.std.proofs.Common.{◌≡◌, ◌++◌, codes, take, flat_map}
use Rattle.json_text.specs.Json.{outcome_text}
use Rattle.json_text.proofs.json.append_listed.Given as goal

abbrev pub invariant-loop-outcome : goal.invariant-loop-outcome
invariant-loop-outcome l = l.out.items ≡ l.initial.out.items ++ flat_map (λ y. codes ", " ++ outcome_text l.names y) (take l.outcome-index l.rest)
