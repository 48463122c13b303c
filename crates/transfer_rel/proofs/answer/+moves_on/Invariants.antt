use Rattle.std.proofs.Common.{◌-◌, ◌^◌}
use Rattle.transfer_rel.proofs.answer.+moves_on.Given as goal

abbrev pub decreases-moves_on : goal.decreases-moves_on
decreases-moves_on l = 2 ^ 112 - l.cube.now.fixed
