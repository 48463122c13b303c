use Rattle.std.proofs.Common.{◌≡◌, ◌-◌, [], length}
use Rattle.report_text.specs.Reading.{sections_from}
use Rattle.report_text.proofs.reader.read_sections.Given as goal

abbrev pub invariant-loop-turn : goal.invariant-loop-turn
invariant-loop-turn l = sections_from l.numbers (length l.bytes - l._turn) l.sections.items l.rest ≡ sections_from l.numbers (length l.bytes) [] l.bytes
