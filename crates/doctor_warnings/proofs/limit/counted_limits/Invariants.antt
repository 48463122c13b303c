use Rattle.std.proofs.Common.{◌≡◌, take}
use Rattle.std.specs.Prelude.{filter_map}
use Rattle.doctor_warnings.specs.Limits.{limit_of}
use Rattle.doctor_warnings.proofs.limit.counted_limits.Given as goal

abbrev pub invariant-loop-warning : goal.invariant-loop-warning
invariant-loop-warning l = l.limits.items ≡ filter_map limit_of (take l.warning-index l.warnings)
