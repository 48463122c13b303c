use Rattle.std.proofs.Common.{◌≡◌, ◌++◌, map, take}
use Rattle.doctor_warnings.specs.Listed.{listed_line}
use Rattle.doctor_warnings.proofs.listing.add_told.Given as goal

abbrev pub invariant-loop-line : goal.invariant-loop-line
invariant-loop-line l = l.lines.items ≡ l.fn.lines.items ++ map (listed_line l.path l.bytes) (take l.line-index l.told)
