use Rattle.std.proofs.Common.{map, take}
use Rattle.text_tallies.specs.Tallies.{AreSeen}
use Rattle.doctor_warnings.specs.Told.{key}
use Rattle.doctor_warnings.proofs.passing.tallies_of.Given as goal

abbrev pub invariant-loop-line : goal.invariant-loop-line
invariant-loop-line l = AreSeen (map (key l.bytes) (take l.line-index l.told)) l.tallies
