use Rattle.std.proofs.Common.{rules}
use Rattle.std.proofs.lemmas.Result.{IfOk-weaker}
use Rattle.loop_search.proofs.search.with_step.Goals as goal

pub returns-clause-set : goal.returns-clause-set
returns-clause-set c = IfOk-weaker c.either.result _ _ (λ x made. search rules) c.either.ensures.set
