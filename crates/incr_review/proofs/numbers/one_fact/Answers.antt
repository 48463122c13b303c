use Rattle.incr_review.proofs.FactLemmas.{one_numbered}
use Rattle.incr_review.proofs.numbers.one_fact.Goals as goal

pub returns-clause-numbers : goal.returns-clause-numbers
returns-clause-numbers c =
    one_numbered c.args.table.now c.on_set.new.table c.args.fact _ c.in_ok-function.ensures.kept c.requires c.in_ok-function.ensures.below c.in_ok-lists.ensures c.in_ok-function.ensures.exact
