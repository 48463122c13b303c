use Rattle.std.proofs.Common.{◌≡◌, length}
use Rattle.look_alikes.specs.Words.{has_mark}
use Rattle.look_alikes.proofs.words.has_mark.Given as goal

abbrev pub invariant-loop-rest : goal.invariant-loop-rest
invariant-loop-rest l = has_mark l.mark l.rest ≡ has_mark l.mark l.fn.text

abbrev pub decreases-loop-rest : goal.decreases-loop-rest
decreases-loop-rest l = length l.rest
