use Rattle.std.proofs.Common.{◌≡◌, take, map}
use Rattle.walk_trace.specs.Keys.{state_of}
use Rattle.walk_trace.proofs.states.states_of.Given as goal

abbrev pub invariant-loop-key : goal.invariant-loop-key
invariant-loop-key l = l.states.items ≡ map state_of (take l.key-index l.keys)
