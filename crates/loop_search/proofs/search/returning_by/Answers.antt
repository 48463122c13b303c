use Rattle.std.proofs.lemmas.Result.{IfOk-weaker}
use Rattle.net_view.specs.Borrowed.{world_of}
use Rattle.set_walk.proofs.SetLemmas.{keeps_then}
use Rattle.loop_search.proofs.WholeLemmas.{whole_kept}
use Rattle.loop_search.proofs.LoopLemmas.{returned, nothing_returned}
use Rattle.loop_search.proofs.search.returning_by.Goals as goal

pub returns-then-is_nothing-clause-set : goal.returns-then-is_nothing-clause-set
returns-then-is_nothing-clause-set c =
    record {
      below = c.requires.headers;
      exact = nothing_returned (world_of c.args.net.now.world) c.args.room c.args.table.now c.args.arrivals.place c.args.arrivals.stamp c.args.arrivals.headers (c.is_nothing.ensures.0 c.if-is_nothing.true);
    }

pub returning-requires-clause-net : goal.returning-requires-clause-net
returning-requires-clause-net c = whole_kept c.args.table.now c.arriving.new.table c.args.net.now c.in_ok-arriving.ensures.kept c.requires.net

pub returns-clause-set : goal.returns-clause-set
returns-clause-set c =
    let t0 = c.args.table.now in
    let t1 = c.arriving.new.table in
    let t2 = c.returning.new.table in
    let t3 = c.before_stamp.new.table in
    let k = keeps_then t0 t2 t3 (keeps_then t0 t1 t2 c.in_ok-arriving.ensures.kept c.in_ok-back.ensures.kept) c.in_ok-before.ensures.kept in
    IfOk-weaker c.both.result _ _ (λ set made. record {
      below = made.below;
      exact = returned (world_of c.args.net.now.world) c.args.room t0 t1 t2 t3 c.both.new.table c.args.arrivals.place c.args.arrivals.stamp c.args.arrivals.headers c.in_ok-arriving.arriving c.in_ok-back.back c.in_ok-before.before set c.requires.stamp c.requires.headers k c.in_ok-arriving.ensures.made c.in_ok-back.ensures.set.exact c.in_ok-before.ensures.set.exact made.exact;
    }) c.both.ensures.set
