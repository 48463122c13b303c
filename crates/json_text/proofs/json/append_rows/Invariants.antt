use Rattle.std.proofs.Common.{◌≡◌, ◌++◌, codes, take, flat_map}
use Rattle.json_text.specs.Json.{row_text}
use Rattle.json_text.proofs.json.append_rows.Given as goal

abbrev pub invariant-loop-row : goal.invariant-loop-row
invariant-loop-row l = l.out.items ≡ l.initial.out.items ++ flat_map (λ y. codes ",\n" ++ row_text l.names y) (take l.row-index l.rest)
