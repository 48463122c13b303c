use Rattle.std.proofs.Common.{◌≡◌, ◌++◌}
use Rattle.doctor_warnings.specs.Tables.{places_told}
use Rattle.doctor_warnings.proofs.tables.add_found.Given as goal

abbrev pub invariant-loop-finding : goal.invariant-loop-finding
invariant-loop-finding l = l.warnings.items ≡ l.fn.warnings.items ++ places_told l.path l.two l.yielded
