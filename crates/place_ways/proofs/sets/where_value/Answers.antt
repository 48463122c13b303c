use Rattle.place_ways.proofs.SetLemmas.{where_plain}
use Rattle.place_ways.proofs.sets.where_value.Goals as goal

pub returns-clause-set : goal.returns-clause-set
returns-clause-set c =
    record {
      below = c.in_ok-set.ensures.set.below;
      exact = where_plain c.args.table.now c.with_value.new.self c.both.new.table c.args.function c.args.value c.in_ok-marked.marked c.args.given c.in_ok-set.set c.in_ok-marked.ensures.kept c.requires.given c.in_ok-marked.ensures.exact c.in_ok-set.ensures.set.exact;
    }
