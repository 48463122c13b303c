use Rattle.incr_review.proofs.EditLemmas.{edited_there}
use Rattle.incr_review.proofs.laws.edited_is_edited_there.Goals as goal

pub returns : goal.returns
returns c = edited_there
