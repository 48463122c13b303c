use Rattle.incr_review.proofs.FactLemmas.{none_numbered}
use Rattle.incr_review.proofs.numbers.no_numbers.Goals as goal

pub returns : goal.returns
returns c = none_numbered c.args.table.now _ c.nothing.ensures.below c.nothing.ensures.exact
