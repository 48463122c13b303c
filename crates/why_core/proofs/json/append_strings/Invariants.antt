use Rattle.std.proofs.Common.{◌≡◌, ◌++◌, codes, flat_map, map, take}
use Rattle.json_text.specs.Json.{string_text}
use Rattle.why_core.proofs.json.append_strings.Given as goal

abbrev pub invariant-loop-line : goal.invariant-loop-line
invariant-loop-line l = l.out.items ≡ l.initial.out.items ++ flat_map (λ y. codes ", " ++ string_text y) (map (λ line. line.now) (take l.line-index l.rest))
