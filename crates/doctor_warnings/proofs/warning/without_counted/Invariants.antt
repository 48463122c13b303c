use Rattle.std.proofs.Common.{◌≡◌}
use Rattle.std.specs.Prelude.{filter}
use Rattle.doctor_warnings.specs.Warnings.{is_warning}
use Rattle.doctor_warnings.proofs.warning.without_counted.Given as goal

abbrev pub invariant-loop-warning : goal.invariant-loop-warning
invariant-loop-warning l = l.warnings.items ≡ filter is_warning l.yielded
