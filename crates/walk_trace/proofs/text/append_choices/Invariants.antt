use Rattle.std.proofs.Common.{◌≡◌, ◌++◌, take, flat_map}
use Rattle.walk_trace.specs.TraceText.{choice_text}
use Rattle.walk_trace.proofs.text.append_choices.Given as goal

abbrev pub invariant-loop-choice : goal.invariant-loop-choice
invariant-loop-choice l = l.out.items ≡ l.initial.out.items ++ flat_map (choice_text l.names) (take l.choice-index l.choices)
