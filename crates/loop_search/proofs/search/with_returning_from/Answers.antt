use Rattle.std.proofs.Common.{◌⊎◌, subst, take_all, get_or}
use Rattle.std.proofs.lemmas.List.{get_or_default}
use Rattle.net_view.specs.Borrowed.{world_of}
use Rattle.set_walk.specs.declared.step.Step.TheVariants.{Drop}
use Rattle.set_walk.specs.declared.step.Way.{Way}
use Rattle.set_walk.specs.Sets.{InSet, IsSetOf}
use Rattle.set_walk.proofs.SetLemmas.{keeps_same, keeps_then, kept_below, kept_set}
use Rattle.loop_search.proofs.WholeLemmas.{whole_kept}
use Rattle.set_walk.proofs.ToldLemmas.{item_among, told_one_kept}
use Rattle.loop_search.specs.Looping.{ByWay, IsBack}
use Rattle.loop_search.proofs.WayLemmas.{ways_none, ways_more, same_set}
use Rattle.loop_search.proofs.search.with_returning_from.Goals as goal

pub loop-group-init : goal.loop-group-init
loop-group-init c =
    let f = c.args.table.now in
    let w = world_of c.args.net.now.world in
    record {
      kept = keeps_same f;
      below = c.requires.found;
      exact = ways_none f (InSet f c.args.search.found) (λ m g. InSet f c.args.search.lasting g × IsBack w c.args.room m g) f c.args.search.found (same_set f c.args.search.found);
    }

pub with_returning-requires-clause-net : goal.with_returning-requires-clause-net
with_returning-requires-clause-net c = whole_kept c.args.table.now c.loop-group.table c.args.net.now c.loop-group.invariant.kept c.requires.net

pub with_returning-requires-clause-group : goal.with_returning-requires-clause-group
with_returning-requires-clause-group c =
    let xs = c.args.groups.now in
    let i = c.loop-group.group-index in
    let x : Way = get_or xs i (record { step = Drop; headers = 0 }) in
    let e = get_or_default xs i (record { step = Drop; headers = 0 }) x c.loop-group-test.true in
    let among = item_among xs i x c.loop-group-test.true e in
    told_one_kept c.args.table.now c.loop-group.table x c.loop-group.invariant.kept (c.requires.groups x among)

pub with_returning-requires-clause-lasting : goal.with_returning-requires-clause-lasting
with_returning-requires-clause-lasting c = kept_below c.args.table.now c.loop-group.table c.args.search.lasting c.loop-group.invariant.kept c.requires.lasting

pub loop-group-preserved : goal.loop-group-preserved
loop-group-preserved c =
    let f = c.args.table.now in
    let g = c.loop-group.table in
    let w = world_of c.args.net.now.world in
    let xs = c.args.groups.now in
    let i = c.loop-group.group-index in
    let x : Way = get_or xs i (record { step = Drop; headers = 0 }) in
    let e = get_or_default xs i (record { step = Drop; headers = 0 }) x c.loop-group-test.true in
    let among = item_among xs i x c.loop-group-test.true e in
    let made : IsSetOf c.with_returning.new.table c.in_ok-found.found (λ h. InSet g c.loop-group.found h ⊎ (InSet g x.headers h × (InSet g c.args.search.lasting h × IsBack w c.args.room x.step h))) = c.in_ok-found.ensures.set.exact in
    record {
      kept = keeps_then f g c.with_returning.new.table c.loop-group.invariant.kept c.in_ok-found.ensures.kept;
      below = c.in_ok-found.ensures.set.below;
      exact = ways_more f (InSet f c.args.search.found) (λ m h. InSet f c.args.search.lasting h × IsBack w c.args.room m h) g c.with_returning.new.table xs i x (λ m h. InSet g c.args.search.lasting h × IsBack w c.args.room m h) c.loop-group.found c.in_ok-found.found c.loop-group.invariant.kept (c.requires.groups x among).below c.loop-group-test.true e
          (λ h v. let k = kept_set f g c.args.search.lasting h c.loop-group.invariant.kept c.requires.lasting in (λ y. (k.0 y.0, y.1), λ y. (k.1 y.0, y.1)))
          c.loop-group.invariant.exact made;
    }

pub returns-clause-set : goal.returns-clause-set
returns-clause-set c =
    let f = c.args.table.now in
    let w = world_of c.args.net.now.world in
    record {
      below = c.loop-group.invariant.below;
      exact = subst (λ xs. IsSetOf c.loop-group.table c.loop-group.found (λ h. InSet f c.args.search.found h ⊎ ByWay f xs (λ m g. InSet f c.args.search.lasting g × IsBack w c.args.room m g) h)) (take_all c.loop-group.group-index c.args.groups.now c.loop-group-test.false) c.loop-group.invariant.exact;
    }
