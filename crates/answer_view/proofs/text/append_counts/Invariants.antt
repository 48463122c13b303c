use Rattle.std.proofs.Common.{◌≡◌, ◌++◌, codes, take, flat_map}
use Rattle.answer_view.specs.ShownText.{count_text}
use Rattle.answer_view.proofs.text.append_counts.Given as goal

abbrev pub invariant-loop-group : goal.invariant-loop-group
invariant-loop-group l = l.out.items ≡ l.initial.out.items ++ flat_map (λ y. codes ", " ++ count_text l.answered y) (take l.group-index l.rest)
