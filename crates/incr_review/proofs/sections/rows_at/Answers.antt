use Rattle.std.proofs.lemmas.Result.{IfOk-weaker}
use Rattle.incr_review.proofs.sections.rows_at.Goals as goal

pub returns : goal.returns
returns c = IfOk-weaker c.rows_of_function.result _ _ (λ rows right. record { given = c.in_ok-given.given; pairs = c.in_ok-given.ensures; right = right }) c.rows_of_function.ensures
