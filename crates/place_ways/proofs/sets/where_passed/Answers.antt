use Rattle.place_ways.proofs.SetLemmas.{where_part}
use Rattle.place_ways.proofs.sets.where_passed.Goals as goal

pub returns-clause-set : goal.returns-clause-set
returns-clause-set c =
    record {
      below = c.in_ok-set.ensures.below;
      exact = where_part c.args.table.now c.within.new.self c.with_value.new.self c.args.list 1 c.in_ok-part.part c.args.given c.in_ok-set.set c.in_ok-part.ensures.exact c.in_ok-set.ensures.exact;
    }
