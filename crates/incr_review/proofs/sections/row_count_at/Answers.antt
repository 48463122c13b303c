use Rattle.std.proofs.lemmas.Result.{IfOk-weaker}
use Rattle.incr_review.proofs.sections.row_count_at.Goals as goal

pub returns : goal.returns
returns c = IfOk-weaker c.row_count.result _ _ (λ rows right. record { given = c.in_ok-given.given; pairs = c.in_ok-given.ensures; right = right }) c.row_count.ensures
