use Rattle.std.proofs.Common.{◌≡◌, fold, take, min}
use Rattle.report_groups.proofs.least.least_digits.Given as goal

abbrev pub invariant-loop-pattern : goal.invariant-loop-pattern
invariant-loop-pattern l = l.least ≡ fold (λ least q. min least q.bits) l.first (take l.pattern-index l.patterns)
