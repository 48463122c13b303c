use Rattle.std.proofs.Common.{◌≡◌, ◌++◌}
use Rattle.doctor_warnings.specs.Warnings.{config_told}
use Rattle.doctor_warnings.proofs.configs.add_found.Given as goal

abbrev pub invariant-loop-finding : goal.invariant-loop-finding
invariant-loop-finding l = l.warnings.items ≡ l.fn.warnings.items ++ config_told l.path l.yielded
