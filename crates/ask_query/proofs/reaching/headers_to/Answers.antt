use Rattle.std.proofs.Common.{rules}
use Rattle.std.proofs.lemmas.Result.{IfOk-weaker}
use Rattle.ask_query.proofs.ReachingLemmas.{no_name, one_name}
use Rattle.ask_query.proofs.reaching.headers_to.Goals as goal

pub returns-in_default-clause-set : goal.returns-in_default-clause-set
returns-in_default-clause-set c =
    record {
      below = c.nothing.ensures.below;
      exact = no_name c.args.table.now c.args.table.now c.args.ends.now c.nothing.result c.args.to (search rules) c.nothing.ensures.exact;
    }

pub returns-clause-set : goal.returns-clause-set
returns-clause-set c =
    IfOk-weaker c.headers_at.result _ _ (λ set made. record {
      below = made.below;
      exact = one_name c.args.table.now c.headers_at.new.table c.args.ends.now set c.in-Some.place c.args.to (search rules) made.exact;
    }) c.headers_at.ensures.set
