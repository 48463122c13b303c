use Rattle.std.proofs.Common.{◌≡◌, ◌++◌, take}
use Rattle.std.specs.List.{flat_map}
use Rattle.doctor_warnings.specs.Texts.{counted_line}
use Rattle.doctor_warnings.proofs.note_text.append_counted.Given as goal

abbrev pub invariant-loop-row : goal.invariant-loop-row
invariant-loop-row l = l.out.items ≡ l.fn.out.items ++ flat_map (counted_line l.lines) (take l.row-index l.rows)
