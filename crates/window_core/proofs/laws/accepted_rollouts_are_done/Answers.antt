use Rattle.window_core.proofs.Accepted.{accepted_may_stop}
use Rattle.window_core.proofs.laws.accepted_rollouts_are_done.Goals as goal

pub returns : goal.returns
returns c = accepted_may_stop
