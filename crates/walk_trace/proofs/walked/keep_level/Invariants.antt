use Rattle.std.proofs.Common.{◌≡◌}
use Rattle.walk_trace.proofs.walked.keep_level.Given as goal

abbrev pub invariant-loop-state : goal.invariant-loop-state
invariant-loop-state l = l.site ≡ l.initial.site
