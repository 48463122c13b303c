use Rattle.region_walk.proofs.DeviceLemmas.{NoneMet}
use Rattle.region_walk.proofs.devices.is_met.Given as goal

abbrev pub invariant-loop-n : goal.invariant-loop-n
invariant-loop-n l = NoneMet l.visits l.levels l.device l.n
