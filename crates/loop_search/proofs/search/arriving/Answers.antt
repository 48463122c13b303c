use Rattle.std.proofs.lemmas.Result.{IfOk-weaker}
use Rattle.loop_search.proofs.LoopLemmas.{arriving_there}
use Rattle.loop_search.proofs.search.arriving.Goals as goal

pub returns-clause-made : goal.returns-clause-made
returns-clause-made c =
    IfOk-weaker c.add_entry.result _ _
    (λ set exact. arriving_there c.args.stamp.now c.all.result c.forth-cube.result c.add_entry.new.self set c.args.table.now c.args.headers c.all.ensures c.forth-cube.ensures.made exact)
    c.add_entry.ensures.exact
