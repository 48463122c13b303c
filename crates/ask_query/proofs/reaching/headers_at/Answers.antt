use Rattle.std.proofs.Common.{subst, take_all, get_or}
use Rattle.std.proofs.lemmas.List.{get_or_default}
use Rattle.net_types.specs.declared.label.Outcome.TheVariants.{Dropped}
use Rattle.set_walk.specs.declared.ends.OutcomeSet.{OutcomeSet}
use Rattle.set_walk.specs.Sets.{IsSetOf}
use Rattle.set_walk.proofs.SetLemmas.{keeps_same, keeps_then, kept_below}
use Rattle.set_walk.proofs.ToldLemmas.{item_among}
use Rattle.ask_query.specs.Reaching.{EndsAt}
use Rattle.ask_query.proofs.ReachingLemmas.{ends_none, ends_more}
use Rattle.ask_query.proofs.reaching.headers_at.Goals as goal

pub loop-end-init : goal.loop-end-init
loop-end-init c = record {
  kept = keeps_same c.args.table.now;
  below = c.nothing-set.ensures.below;
  exact = ends_none c.args.table.now c.args.table.now c.nothing-set.result c.args.place c.nothing-set.ensures.exact;
}

pub with_end-requires-clause-end : goal.with_end-requires-clause-end
with_end-requires-clause-end c =
    let xs = c.args.ends.now in
    let i = c.loop-end.end-index in
    let x : OutcomeSet = get_or xs i (record { outcome = Dropped; headers = 0 }) in
    let e = get_or_default xs i (record { outcome = Dropped; headers = 0 }) x c.loop-end-test.true in
    kept_below c.args.table.now c.loop-end.table x.headers c.loop-end.invariant.kept (c.requires.ends x (item_among xs i x c.loop-end-test.true e))

pub loop-end-preserved : goal.loop-end-preserved
loop-end-preserved c =
    let f = c.args.table.now in
    let xs = c.args.ends.now in
    let i = c.loop-end.end-index in
    let x : OutcomeSet = get_or xs i (record { outcome = Dropped; headers = 0 }) in
    let e = get_or_default xs i (record { outcome = Dropped; headers = 0 }) x c.loop-end-test.true in
    record {
      kept = keeps_then f c.loop-end.table c.with_end.new.table c.loop-end.invariant.kept c.in_ok-set.ensures.kept;
      below = c.in_ok-set.ensures.set.below;
      exact = ends_more f c.loop-end.table c.with_end.new.table xs i x c.args.place c.loop-end.set c.in_ok-set.set c.loop-end.invariant.kept (c.requires.ends x (item_among xs i x c.loop-end-test.true e)) c.loop-end-test.true e c.loop-end.invariant.exact c.in_ok-set.ensures.set.exact;
    }

pub returns-clause-set : goal.returns-clause-set
returns-clause-set c =
    record {
      below = c.loop-end.invariant.below;
      exact = subst (λ xs. IsSetOf c.loop-end.table c.loop-end.set (EndsAt c.args.table.now xs c.args.place)) (take_all c.loop-end.end-index c.args.ends.now c.loop-end-test.false) c.loop-end.invariant.exact;
    }
