use Rattle.std.proofs.Common.{rules}
use Rattle.std.proofs.lemmas.Result.{IfOk-weaker}
use Rattle.loop_search.proofs.bounds.with_way.Goals as goal

pub returns-in_ok-more-in-Go-clause-below : goal.returns-in_ok-more-in-Go-clause-below
returns-in_ok-more-in-Go-clause-below c = IfOk-weaker c.either.result _ _ (λ x made. made.below) c.either.ensures.set

pub returns-in_ok-more-in-Go-clause-stay : goal.returns-in_ok-more-in-Go-clause-stay
returns-in_ok-more-in-Go-clause-stay c = IfOk-weaker c.either.result _ _ (λ x made. search rules) c.either.ensures.set
