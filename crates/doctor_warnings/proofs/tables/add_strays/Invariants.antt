use Rattle.std.proofs.Common.{◌≡◌, ◌++◌}
use Rattle.doctor_warnings.specs.Tables.{strays_told}
use Rattle.doctor_warnings.proofs.tables.add_strays.Given as goal

abbrev pub invariant-loop-next : goal.invariant-loop-next
invariant-loop-next l = l.warnings.items ≡ l.fn.warnings.items ++ strays_told l.path l.two l.yielded
