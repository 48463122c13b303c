use Rattle.std.proofs.Common.{◌≡◌, ◌+◌, ◌++◌, drop}
use Rattle.walk_trace.specs.TraceText.{states_text}
use Rattle.walk_trace.proofs.text.append_states.Given as goal

-- the text so far and that of the states to come are the text of all
abbrev pub invariant-loop-i : goal.invariant-loop-i
invariant-loop-i l = l.out.items ++ states_text l.names (l.i + 1) (drop l.i l.states) ≡ l.initial.out.items ++ states_text l.names 1 l.states
