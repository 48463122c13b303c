use Rattle.std.proofs.Common.{◌≡◌, ◌++◌, take}
use Rattle.std.specs.List.{flat_map}
use Rattle.doctor_warnings.specs.Texts.{warning_line}
use Rattle.doctor_warnings.proofs.warning_text.append_warnings.Given as goal

abbrev pub invariant-loop-warning : goal.invariant-loop-warning
invariant-loop-warning l = l.out.items ≡ l.fn.out.items ++ flat_map warning_line (take l.warning-index l.warnings)
