use Rattle.review_core.proofs.Accepted.{accepted_may_stop}
use Rattle.review_core.proofs.laws.accepted_jobs_are_done.Goals as goal

pub returns : goal.returns
returns c = accepted_may_stop
