use Rattle.std.proofs.Common.{◌≡◌, ◌++◌, codes, take, flat_map}
use Rattle.doctor_warnings.specs.NotesJson.{warning_json}
use Rattle.doctor_warnings.proofs.json.append_warnings.Given as goal

abbrev pub invariant-loop-warning : goal.invariant-loop-warning
invariant-loop-warning l = l.out.items ≡ l.initial.out.items ++ flat_map (λ y. codes ",\n" ++ warning_json y) (take l.warning-index l.rest)
