use Rattle.std.proofs.Common.{◌≡◌, ◌++◌, codes, take, flat_map}
use Rattle.answer_view.specs.ShownJson.{count_member}
use Rattle.answer_view.proofs.json.append_group_counts.Given as goal

abbrev pub invariant-loop-group : goal.invariant-loop-group
invariant-loop-group l = l.out.items ≡ l.initial.out.items ++ flat_map (λ y. codes ", " ++ count_member l.answered y) (take l.group-index l.rest)
