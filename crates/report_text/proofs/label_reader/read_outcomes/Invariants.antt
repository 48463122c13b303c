use Rattle.std.proofs.Common.{◌≡◌, ◌-◌, []}
use Rattle.report_text.specs.Reading.{outcomes_from}
use Rattle.report_text.proofs.label_reader.read_outcomes.Given as goal

abbrev pub invariant-loop-turn : goal.invariant-loop-turn
invariant-loop-turn l = outcomes_from l.numbers (l.most - l._turn) l.outcomes.items l.rest ≡ outcomes_from l.numbers l.most [] l.bytes
