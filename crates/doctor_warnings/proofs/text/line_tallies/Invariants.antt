use Rattle.std.proofs.Common.{take}
use Rattle.text_tallies.specs.Tallies.{AreSeen}
use Rattle.doctor_warnings.specs.Texts.{line_words}
use Rattle.doctor_warnings.proofs.text.line_tallies.Given as goal

abbrev pub invariant-loop-line : goal.invariant-loop-line
invariant-loop-line l = AreSeen (line_words (take l.line-index l.lines)) l.tallies
