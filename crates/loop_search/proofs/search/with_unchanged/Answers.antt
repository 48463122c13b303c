use Rattle.std.proofs.Common.{◌≡◌, ◌⊎◌, subst, take_all, get_or}
use Rattle.std.proofs.lemmas.List.{get_or_default}
use Rattle.set_walk.specs.declared.step.Step.TheVariants.{Drop, Go}
use Rattle.set_walk.specs.declared.step.Way.{Way}
use Rattle.set_walk.specs.Sets.{InSet, IsSetOf}
use Rattle.set_walk.proofs.SetLemmas.{keeps_same, keeps_then, kept_below}
use Rattle.set_walk.proofs.ToldLemmas.{item_among}
use Rattle.loop_search.specs.Looping.{ByWay, unchanged_at}
use Rattle.loop_search.proofs.WayLemmas.{ways_none, ways_more, same_set}
use Rattle.loop_search.proofs.search.with_unchanged.Goals as goal

pub loop-group-init : goal.loop-group-init
loop-group-init c =
    let f = c.args.table.now in
    record {
      kept = keeps_same f;
      below = c.requires.set;
      exact = ways_none f (InSet f c.args.set) (λ m _. m ≡ unchanged_at c.args.place) f c.args.set (same_set f c.args.set);
    }

pub with_step-requires-clause-way : goal.with_step-requires-clause-way
with_step-requires-clause-way c =
    let xs = c.args.groups.now in
    let i = c.loop-group.group-index in
    let x : Way = get_or xs i (record { step = Drop; headers = 0 }) in
    let e = get_or_default xs i (record { step = Drop; headers = 0 }) x c.loop-group-test.true in
    let among = item_among xs i x c.loop-group-test.true e in
    kept_below c.args.table.now c.loop-group.table x.headers c.loop-group.invariant.kept (c.requires.groups x among).below

pub loop-group-preserved : goal.loop-group-preserved
loop-group-preserved c =
    let f = c.args.table.now in
    let xs = c.args.groups.now in
    let i = c.loop-group.group-index in
    let x : Way = get_or xs i (record { step = Drop; headers = 0 }) in
    let e = get_or_default xs i (record { step = Drop; headers = 0 }) x c.loop-group-test.true in
    let among = item_among xs i x c.loop-group-test.true e in
    let g = c.loop-group.table in
    let made : IsSetOf c.with_step.new.table c.in_ok-all.all (λ h. InSet g c.loop-group.all h ⊎ (InSet g x.headers h × (x.step ≡ unchanged_at c.args.place))) =
    subst (λ s. IsSetOf c.with_step.new.table c.in_ok-all.all (λ h. InSet g c.loop-group.all h ⊎ (InSet g x.headers h × (x.step ≡ Go c.args.place s)))) c.none.ensures c.in_ok-all.ensures.set.exact in
    record {
      kept = keeps_then f c.loop-group.table c.with_step.new.table c.loop-group.invariant.kept c.in_ok-all.ensures.kept;
      below = c.in_ok-all.ensures.set.below;
      exact = ways_more f (InSet f c.args.set) (λ m _. m ≡ unchanged_at c.args.place) c.loop-group.table c.with_step.new.table xs i x (λ m _. m ≡ unchanged_at c.args.place) c.loop-group.all c.in_ok-all.all c.loop-group.invariant.kept (c.requires.groups x among).below c.loop-group-test.true e (λ h v. (λ g. g, λ g. g)) c.loop-group.invariant.exact made;
    }

pub returns-clause-set : goal.returns-clause-set
returns-clause-set c =
    let f = c.args.table.now in
    record {
      below = c.loop-group.invariant.below;
      exact = subst (λ xs. IsSetOf c.loop-group.table c.loop-group.all (λ h. InSet f c.args.set h ⊎ ByWay f xs (λ m _. m ≡ unchanged_at c.args.place) h)) (take_all c.loop-group.group-index c.args.groups.now c.loop-group-test.false) c.loop-group.invariant.exact;
    }
