use Rattle.std.proofs.Common.{◌≡◌, length}
use Rattle.doctor_warnings.specs.Lines.{trimmed}
use Rattle.doctor_warnings.proofs.lines.trimmed.Given as goal

abbrev pub invariant-loop-rest : goal.invariant-loop-rest
invariant-loop-rest l = trimmed l.rest ≡ trimmed l.fn.line

abbrev pub decreases-loop-rest : goal.decreases-loop-rest
decreases-loop-rest l = length l.rest
