use Rattle.std.proofs.lemmas.Result.{IfOk-weaker}
use Rattle.incr_review.proofs.SetNumberLemmas.{number_is}
use Rattle.incr_review.proofs.set_numbers.on_set.Goals as goal

pub returns-clause-exact : goal.returns-clause-exact
returns-clause-exact c =
    IfOk-weaker c.within.result _ _
    (λ inside exact. number_is c.args.table.now c.add_entry.new.self c.within.new.self c.args.set c.args.number c.in_ok-everywhere.everywhere inside c.all_headers.result c.in_ok-everywhere.ensures.kept c.requires c.all_headers.ensures c.in_ok-everywhere.ensures.exact exact)
    c.within.ensures.exact
