use Rattle.std.proofs.Common.{rules}
use Rattle.std.proofs.lemmas.Result.{IfOk-weaker}
use Rattle.loop_search.proofs.search.with_group.Goals as goal

pub returns-in-Go-clause-set : goal.returns-in-Go-clause-set
returns-in-Go-clause-set c = IfOk-weaker c.either.result _ _ (λ x made. search rules) c.either.ensures.set
