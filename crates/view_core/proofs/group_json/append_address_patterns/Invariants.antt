use Rattle.std.proofs.Common.{◌≡◌, ◌++◌, ◌≤◌, ◌*◌, ◌^◌, [], codes, take, map, flat_map, All}
use Rattle.view_core.specs.GroupJson.{address_pattern}
use Rattle.view_core.proofs.group_json.append_address_patterns.Given as goal

abbrev pub invariant-loop-pattern : goal.invariant-loop-pattern
invariant-loop-pattern l = l.out.items ≡ l.initial.out.items ++ flat_map (λ y. codes ", " ++ address_pattern y) (take l.pattern-index l.rest)
