use Rattle.std.proofs.Common.{◌≡◌, ◌++◌, take}
use Rattle.std.specs.List.{flat_map}
use Rattle.doctor_warnings.specs.Texts.{limit_line}
use Rattle.doctor_warnings.proofs.note_text.append_limits.Given as goal

abbrev pub invariant-loop-row : goal.invariant-loop-row
invariant-loop-row l = l.out.items ≡ l.fn.out.items ++ flat_map (limit_line l.asked l.limits) (take l.row-index l.rows)
