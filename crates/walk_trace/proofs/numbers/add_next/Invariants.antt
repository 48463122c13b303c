use Rattle.std.proofs.Common.{◌≡◌, take}
use Rattle.std.specs.Prelude.{flat_map, fold}
use Rattle.walk_trace.specs.Numbered.{next_in_order, with_state}
use Rattle.walk_trace.proofs.numbers.add_next.Given as goal

abbrev pub invariant-loop-state : goal.invariant-loop-state
invariant-loop-state l = l.found ≡ fold with_state l.initial.found (flat_map (next_in_order l.site) (take l.state-index l.states))
