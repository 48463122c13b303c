use Rattle.std.proofs.Common.{◌≡◌, ◌++◌, take, flat_map}
use Rattle.answer_view.specs.ShownText.{group_part}
use Rattle.answer_view.proofs.text.append_groups.Given as goal

abbrev pub invariant-loop-group : goal.invariant-loop-group
invariant-loop-group l = l.out.items ≡ l.fn.out.items ++ flat_map (group_part l.answered) (take l.group-index l.groups)
