use Rattle.walk_trace.specs.Numbered.{reached}
use Rattle.walk_trace.specs.Outcomes.{SameSet}
use Rattle.walk_trace.proofs.outcomes.last_level.Given as goal

abbrev pub invariant-loop-n : goal.invariant-loop-n
invariant-loop-n l = SameSet l.level.items (reached l.site l._n l.start)
