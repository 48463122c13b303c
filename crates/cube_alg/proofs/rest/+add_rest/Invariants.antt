use Rattle.std.proofs.Common.{◌-◌, ◌^◌}
use Rattle.cube_alg.proofs.rest.+add_rest.Given as goal

abbrev pub decreases-add_rest : goal.decreases-add_rest
decreases-add_rest l = 2 ^ 112 - l.a.fixed
