use Rattle.std.proofs.Common.{◌≡◌, ◌+◌, drop}
use Rattle.why_core.specs.Cases.{agreeing}
use Rattle.why_core.proofs.right.agreeing.Given as goal

-- so many agree, and the others decide
abbrev pub invariant-loop-i : goal.invariant-loop-i
invariant-loop-i l = agreeing l.report l.names l.sections l.ingress ≡ l.i + agreeing l.report l.names (drop l.i l.sections) (drop l.i l.ingress)
