use Rattle.std.proofs.Common.{◌≡◌, ◌++◌, codes, take, flat_map}
use Rattle.json_text.specs.Json.{string_text}
use Rattle.audit_view.proofs.json.append_texts.Given as goal

abbrev pub invariant-loop-text : goal.invariant-loop-text
invariant-loop-text l = l.out.items ≡ l.initial.out.items ++ flat_map (λ y. codes ", " ++ string_text y) (take l.text-index l.rest)
