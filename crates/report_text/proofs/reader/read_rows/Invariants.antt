use Rattle.std.proofs.Common.{◌≡◌, ◌-◌, []}
use Rattle.report_text.specs.Reading.{rows_from}
use Rattle.report_text.proofs.reader.read_rows.Given as goal

abbrev pub invariant-loop-turn : goal.invariant-loop-turn
invariant-loop-turn l = rows_from l.numbers (l.most - l._turn) l.rows.items l.rest ≡ rows_from l.numbers l.most [] l.bytes
