use Rattle.std.proofs.Common.{rules}
use Rattle.std.proofs.lemmas.Result.{IfOk-weaker}
use Rattle.ask_query.proofs.answers.with_filter.Goals as goal

pub returns-clause-below : goal.returns-clause-below
returns-clause-below c = IfOk-weaker c.either.result _ _ (λ x made. made.below) c.either.ensures.set

pub returns-clause-filter : goal.returns-clause-filter
returns-clause-filter c = IfOk-weaker c.either.result _ _ (λ x made. search rules) c.either.ensures.set

pub returns-clause-more : goal.returns-clause-more
returns-clause-more c = IfOk-weaker c.either.result _ _ (λ x made. search rules) c.either.ensures.set
