use Rattle.variants_core.proofs.Accepted.{accepted_may_stop}
use Rattle.variants_core.proofs.laws.accepted_variants_are_done.Goals as goal

pub returns : goal.returns
returns c = accepted_may_stop
