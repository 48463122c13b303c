use Rattle.std.proofs.Common.{◌≡◌, ◌+◌, drop}
use Rattle.trace_sides.specs.Sides.{shared_from}
use Rattle.trace_sides.proofs.sides.shared_states.Given as goal

-- so many states were alike, and the others decide
abbrev pub invariant-loop-i : goal.invariant-loop-i
invariant-loop-i l = shared_from l.names 1 l.old l.new ≡ l.i + shared_from l.names (l.i + 1) (drop l.i l.old) (drop l.i l.new)
