use Rattle.std.proofs.Common.{take}
use Rattle.text_tallies.specs.Tallies.{AreSeen}
use Rattle.doctor_warnings.specs.Texts.{limit_words}
use Rattle.doctor_warnings.proofs.text.limit_tallies.Given as goal

abbrev pub invariant-loop-limit : goal.invariant-loop-limit
invariant-loop-limit l = AreSeen (limit_words (take l.limit-index l.limits)) l.tallies
