use Rattle.edits_core.proofs.Accepted.{accepted_may_stop}
use Rattle.edits_core.proofs.laws.accepted_edits_are_done.Goals as goal

pub returns : goal.returns
returns c = accepted_may_stop
