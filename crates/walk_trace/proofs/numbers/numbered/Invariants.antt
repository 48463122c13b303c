use Rattle.std.proofs.Common.{◌≡◌, ◌-◌, length}
use Rattle.walk_trace.specs.Numbered.{numbered}
use Rattle.walk_trace.proofs.numbers.numbered.Given as goal

abbrev pub invariant-loop-n : goal.invariant-loop-n
invariant-loop-n l = record {
  found : l.found ≡ numbered l.site l._n l.start;
  before : l.before ≡ length (numbered l.site (l._n - 1) l.start);
}
