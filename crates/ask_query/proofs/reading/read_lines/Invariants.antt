use Rattle.std.proofs.Common.{◌≡◌, map, drop}
use Rattle.ask_query.specs.Reading.{questions_in, said}
use Rattle.ask_query.proofs.ReadingLemmas.{behind}
use Rattle.ask_query.proofs.reading.read_lines.Given as goal

abbrev pub invariant-loop-line : goal.invariant-loop-line
invariant-loop-line l = behind (map said l.questions.items) (questions_in l.devices l.bytes (drop l.line-index l.lines)) ≡ questions_in l.devices l.bytes l.lines
