use Rattle.std.proofs.Common.{◌≡◌, ◌++◌, codes, take, flat_map}
use Rattle.net_text.specs.Lines.{piece}
use Rattle.answer_view.proofs.asked.append_words.Given as goal

abbrev pub invariant-loop-span : goal.invariant-loop-span
invariant-loop-span l = l.out.items ≡ l.initial.out.items ++ flat_map (λ y. codes " " ++ piece l.bytes y) (take l.span-index l.rest)
