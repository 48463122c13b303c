use Rattle.std.proofs.Common.{◌≡◌, ◌++◌, ◌≤◌, ◌*◌, ◌^◌, [], codes, take, map, flat_map, All}
use Rattle.view_core.specs.GroupJson.{group_object}
use Rattle.view_core.proofs.report_json.append_group_array.Given as goal

abbrev pub invariant-loop-group : goal.invariant-loop-group
invariant-loop-group l = l.out.items ≡ l.initial.out.items ++ flat_map (λ y. codes ",\n" ++ group_object l.names y) (map (λ e. e.now) (take l.group-index l.rest))
