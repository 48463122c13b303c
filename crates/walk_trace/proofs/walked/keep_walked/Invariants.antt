use Rattle.std.proofs.Common.{◌≡◌}
use Rattle.walk_trace.proofs.walked.keep_walked.Given as goal

abbrev pub invariant-loop-n : goal.invariant-loop-n
invariant-loop-n l = l.site ≡ l.initial.site
