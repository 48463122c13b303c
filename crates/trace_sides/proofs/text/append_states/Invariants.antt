use Rattle.std.proofs.Common.{◌≡◌, ◌+◌, ◌++◌, drop}
use Rattle.walk_trace.specs.TraceText.{states_text}
use Rattle.trace_sides.proofs.text.append_states.Given as goal

-- the text so far and that of the states to come are the text of all
abbrev pub invariant-loop-state : goal.invariant-loop-state
invariant-loop-state l = record {
  counted : l.number ≡ l.before + l.state-index;
  text : l.out.items ++ states_text l.names (l.number + 1) (drop l.state-index l.states) ≡ l.initial.out.items ++ states_text l.names (l.before + 1) l.states;
}
