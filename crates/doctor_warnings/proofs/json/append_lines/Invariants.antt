use Rattle.std.proofs.Common.{◌≡◌, ◌++◌, codes, take, flat_map}
use Rattle.doctor_warnings.specs.NotesJson.{line_json}
use Rattle.doctor_warnings.proofs.json.append_lines.Given as goal

abbrev pub invariant-loop-line : goal.invariant-loop-line
invariant-loop-line l = l.out.items ≡ l.initial.out.items ++ flat_map (λ y. codes ",\n" ++ line_json y) (take l.line-index l.rest)
