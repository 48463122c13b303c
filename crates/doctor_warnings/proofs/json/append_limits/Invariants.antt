use Rattle.std.proofs.Common.{◌≡◌, ◌++◌, codes, take, flat_map}
use Rattle.doctor_warnings.specs.NotesJson.{limit_json}
use Rattle.doctor_warnings.proofs.json.append_limits.Given as goal

abbrev pub invariant-loop-limit : goal.invariant-loop-limit
invariant-loop-limit l = l.out.items ≡ l.initial.out.items ++ flat_map (λ y. codes ",\n" ++ limit_json y) (take l.limit-index l.rest)
