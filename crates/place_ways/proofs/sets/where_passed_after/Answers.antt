use Rattle.place_ways.proofs.SetLemmas.{where_set}
use Rattle.place_ways.proofs.sets.where_passed_after.Goals as goal

pub returns-clause-set : goal.returns-clause-set
returns-clause-set c =
    record {
      below = c.in_ok-set-2.ensures.set.below;
      exact = where_set c.args.table.now c.with_value.new.self c.before_stamp.new.table c.both.new.table c.args.list 1 c.in_ok-marked.marked c.in_ok-before.before c.args.given c.in_ok-set-2.set c.args.stamp.now c.in_ok-marked.ensures.kept c.in_ok-before.ensures.kept c.requires.given c.in_ok-marked.ensures.exact c.in_ok-before.ensures.set.exact c.in_ok-set-2.ensures.set.exact;
    }
