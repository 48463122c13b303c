use Rattle.std.proofs.Common.{◌≡◌, ◌++◌}
use Rattle.doctor_warnings.specs.Limits.{counted_limits}
use Rattle.doctor_warnings.proofs.tables.TableNotes.finish.Given as goal

abbrev pub invariant-loop-limit : goal.invariant-loop-limit
invariant-loop-limit l = l.limits.items ≡ counted_limits l.found.items ++ l.yielded
