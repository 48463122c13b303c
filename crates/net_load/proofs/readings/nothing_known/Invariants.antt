use Rattle.std.proofs.Common.{◌≡◌}
use Rattle.std.specs.Prelude.{None, All}
use Rattle.net_load.proofs.readings.nothing_known.Given as goal

abbrev pub invariant-loop : goal.invariant-loop
invariant-loop l = record {
  none : All (λ reading. reading ≡ None) l.known.items;
}
