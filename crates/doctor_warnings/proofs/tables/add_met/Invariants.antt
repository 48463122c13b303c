use Rattle.std.proofs.Common.{◌≡◌, ◌++◌, take}
use Rattle.doctor_warnings.specs.Tables.{met_links}
use Rattle.doctor_warnings.proofs.tables.add_met.Given as goal

abbrev pub invariant-loop-line : goal.invariant-loop-line
invariant-loop-line l = l.limits.items ≡ l.fn.limits.items ++ met_links l.path (take l.line-index l.lines)
