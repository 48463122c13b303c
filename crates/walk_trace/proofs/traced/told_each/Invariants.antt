use Rattle.std.proofs.Common.{◌≡◌, take, map}
use Rattle.walk_trace.specs.Traced.{state_told}
use Rattle.walk_trace.proofs.traced.told_each.Given as goal

abbrev pub invariant-loop-state : goal.invariant-loop-state
invariant-loop-state l = l.told.items ≡ map (state_told l.frame.site.now l.frame.numbers.now l.frame.first.now) (take l.state-index l.states)
