use Rattle.std.proofs.Common.{◌≡◌, ◌≤◌, ◌+◌, ◌-◌, subst, sym, ◌∙◌, length, ap, arith}
use Rattle.std.proofs.lemmas.Result.{IfOk-weaker}
use Rattle.net_view.specs.Borrowed.{world_of}
use Rattle.set_walk.specs.Told.{AreTold}
use Rattle.set_walk.specs.Levels.{IsLevel}
use Rattle.set_walk.specs.Circles.{AllSame}
use Rattle.set_walk.proofs.CircleLemmas.{levels_same}
use Rattle.set_walk.proofs.SetLemmas.{keeps_same, keeps_then}
use Rattle.loop_search.proofs.WholeLemmas.{whole_kept, leads_into}
use Rattle.loop_search.specs.declared.search.Level.{Level}
use Rattle.loop_search.specs.Looping.{AreLevels}
use Rattle.loop_search.proofs.WayLemmas.{length_more, at_position}
use Rattle.loop_search.proofs.LoopLemmas.{levels_none, levels_more}
use Rattle.loop_search.proofs.search.levels_of.Goals as goal

pub next_level-requires-clause-net : goal.next_level-requires-clause-net
next_level-requires-clause-net c = (whole_kept c.args.table.now c.loop-n.table c.args.net.now c.loop-n.invariant.kept c.requires.net).ways

pub next_level-requires-clause-within : goal.next_level-requires-clause-within
next_level-requires-clause-within c = leads_into c.loop-n.table c.args.net.now c.deref.result.now (whole_kept c.args.table.now c.loop-n.table c.args.net.now c.loop-n.invariant.kept c.requires.net)

pub next_level-requires-clause-groups : goal.next_level-requires-clause-groups
next_level-requires-clause-groups c = subst (AreTold c.loop-n.table) (sym c.deref.ensures.value) c.loop-n.invariant.level.told

pub loop-n-init : goal.loop-n-init
loop-n-init c =
    let w = world_of c.args.net.now.world in
    let f = c.args.table.now in
    record {
      kept = keeps_same f;
      level = c.in_ok-groups.ensures w;
      levels = subst (λ ls. AreLevels w f c.args.domain c.args.place f ls) (sym c.new-levels.ensures.items) (levels_none w f f c.args.domain c.args.place);
      count = ap length c.new-levels.ensures.items;
      mark = omega arith;
    }

pub loop-n-preserved : goal.loop-n-preserved
loop-n-preserved c =
    let w = world_of c.args.net.now.world in
    let f = c.args.table.now in
    let d = c.args.domain in
    let p = c.args.place in
    let n = c.loop-n.n in
    let t0 = c.loop-n.table in
    let t1 = c.next_level.new.table in
    let k = c.in_ok-steps.ensures.kept in
    let was = subst (IsLevel w f d p n t0) (sym c.deref.ensures.value) c.loop-n.invariant.level in
    let level : Level = record { groups = c.loop-n.groups } in
    record {
      kept = keeps_then f t0 t1 c.loop-n.invariant.kept k;
      level = c.in_ok-steps.ensures.level f d p n was;
      levels = subst (λ ls. AreLevels w f d p t1 ls) (sym c.in_ok-push.ensures.items) (levels_more w f t0 t1 d p n c.loop-n.levels.items level k c.loop-n.invariant.count c.loop-n.invariant.levels c.loop-n.invariant.level);
      count = ap length c.in_ok-push.ensures.items ∙ length_more c.loop-n.levels.items level n c.loop-n.invariant.count;
      mark = let m = c.later_mark-mark.ensures in omega (arith, m);
    }

pub returns-then-same_groups-clause-levels : goal.returns-then-same_groups-clause-levels
returns-then-same_groups-clause-levels c =
    let w = world_of c.args.net.now.world in
    let f = c.args.table.now in
    let d = c.args.domain in
    let p = c.args.place in
    let n = c.loop-n.n in
    let t0 = c.loop-n.table in
    let t1 = c.next_level.new.table in
    let k = c.in_ok-steps.ensures.kept in
    let was = subst (IsLevel w f d p n t0) (sym c.deref.ensures.value) c.loop-n.invariant.level in
    let next = c.in_ok-steps.ensures.level f d p n was in
    let level : Level = record { groups = c.loop-n.groups } in
    let xs = c.push.new.self.items in
    let all = subst (λ ls. AreLevels w f d p t1 ls) (sym c.in_ok-push.ensures.items) (levels_more w f t0 t1 d p n c.loop-n.levels.items level k c.loop-n.invariant.count c.loop-n.invariant.levels c.loop-n.invariant.level) in
    let count : length xs ≡ n + 1 = ap length c.in_ok-push.ensures.items ∙ length_more c.loop-n.levels.items level n c.loop-n.invariant.count in
    let m = c.later_mark-mark.result in
    let before : m ≤ n = c.later_mark-mark.ensures in
    let is : c.from.result ≡ m = c.from.ensures in
    let x : Level = c.index.result.now in
    let at = at_position xs c.from.result x (omega (arith, is, before, count)) c.index.ensures in
    let marked = subst (λ i. IsLevel w f d p i t1 x.groups.items) is (all c.from.result x at) in
    let same = sym c.deref-in-loop-n.ensures.value ∙ c.same_groups.ensures.same c.if-same_groups.true ∙ c.deref-in-loop-n-2.ensures.value in
    let again = levels_same w f t1 d p m (n + 1) c.in_ok-steps.steps.items (subst (λ gs. IsLevel w f d p m t1 gs) same marked) next in
    let round : m ≡ length xs - (n + 1 - m) = omega (arith, count, before) in
    IfOk-weaker c.with_rounds.result _ _ (λ r levels. levels w f t1 d p all (subst (λ i. AllSame w f d p i (length xs)) round (subst (λ i. AllSame w f d p m i) (sym count) again))) c.with_rounds.ensures.levels
