use Rattle.std.proofs.Common.{◌≡◌, take}
use Rattle.std.specs.List.{flat_map}
use Rattle.doctor_warnings.specs.Told.{told_at}
use Rattle.doctor_warnings.proofs.told.told_lines.Given as goal

abbrev pub invariant-loop-lines : goal.invariant-loop-lines
invariant-loop-lines l = l.told.items ≡ flat_map (told_at l.bytes) (take l.lines-index l.passed)
