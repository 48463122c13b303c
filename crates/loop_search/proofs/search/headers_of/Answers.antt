use Rattle.std.proofs.Common.{subst, take_all, get_or}
use Rattle.std.proofs.lemmas.List.{get_or_default}
use Rattle.set_walk.specs.declared.step.Step.TheVariants.{Drop}
use Rattle.set_walk.specs.declared.step.Way.{Way}
use Rattle.set_walk.specs.Sets.{InSet, IsSetOf}
use Rattle.set_walk.proofs.SetLemmas.{keeps_same, keeps_then, kept_below}
use Rattle.set_walk.proofs.ToldLemmas.{item_among}
use Rattle.loop_search.specs.Looping.{ByWay, GoesOn}
use Rattle.loop_search.proofs.WayLemmas.{ways_none, ways_more, ways_alone, same_set}
use Rattle.loop_search.proofs.search.headers_of.Goals as goal

pub loop-group-init : goal.loop-group-init
loop-group-init c =
    let f = c.args.table.now in
    record {
      kept = keeps_same f;
      below = c.nothing-set.ensures.below;
      exact = ways_none f (InSet f c.nothing-set.result) (λ m _. GoesOn m) f c.nothing-set.result (same_set f c.nothing-set.result);
    }

pub with_group-requires-clause-group : goal.with_group-requires-clause-group
with_group-requires-clause-group c =
    let xs = c.args.groups.now in
    let i = c.loop-group.group-index in
    let x : Way = get_or xs i (record { step = Drop; headers = 0 }) in
    let e = get_or_default xs i (record { step = Drop; headers = 0 }) x c.loop-group-test.true in
    let among = item_among xs i x c.loop-group-test.true e in
    kept_below c.args.table.now c.loop-group.table x.headers c.loop-group.invariant.kept (c.requires.groups x among).below

pub loop-group-preserved : goal.loop-group-preserved
loop-group-preserved c =
    let f = c.args.table.now in
    let xs = c.args.groups.now in
    let i = c.loop-group.group-index in
    let x : Way = get_or xs i (record { step = Drop; headers = 0 }) in
    let e = get_or_default xs i (record { step = Drop; headers = 0 }) x c.loop-group-test.true in
    let among = item_among xs i x c.loop-group-test.true e in
    record {
      kept = keeps_then f c.loop-group.table c.with_group.new.table c.loop-group.invariant.kept c.in_ok-set.ensures.kept;
      below = c.in_ok-set.ensures.set.below;
      exact = ways_more f (InSet f c.nothing-set.result) (λ m _. GoesOn m) c.loop-group.table c.with_group.new.table xs i x (λ m _. GoesOn m) c.loop-group.set c.in_ok-set.set c.loop-group.invariant.kept (c.requires.groups x among).below c.loop-group-test.true e (λ h v. (λ g. g, λ g. g)) c.loop-group.invariant.exact c.in_ok-set.ensures.set.exact;
    }

pub returns-clause-set : goal.returns-clause-set
returns-clause-set c =
    let f = c.args.table.now in
    record {
      below = c.loop-group.invariant.below;
      exact = subst (λ xs. IsSetOf c.loop-group.table c.loop-group.set (ByWay f xs (λ m _. GoesOn m))) (take_all c.loop-group.group-index c.args.groups.now c.loop-group-test.false) (ways_alone f c.loop-group.table c.nothing-set.result c.loop-group.set _ (λ m _. GoesOn m) c.nothing-set.ensures.exact c.loop-group.invariant.exact);
    }
