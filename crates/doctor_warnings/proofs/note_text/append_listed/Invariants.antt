use Rattle.std.proofs.Common.{◌≡◌, ◌++◌, take}
use Rattle.std.specs.List.{flat_map}
use Rattle.doctor_warnings.specs.Texts.{listed_line}
use Rattle.doctor_warnings.proofs.note_text.append_listed.Given as goal

abbrev pub invariant-loop-line : goal.invariant-loop-line
invariant-loop-line l = l.out.items ≡ l.fn.out.items ++ flat_map listed_line (take l.line-index l.lines)
