use Rattle.std.proofs.Common.{◌≡◌, ◌⊎◌, ◌<◌, ◌+◌, ◌∙◌, List, subst, sym, arith}
use Rattle.net_types.specs.Walks.{state_at}
use Rattle.set_walk.specs.declared.step.Way.{Way}
use Rattle.set_walk.specs.Sets.{InSet, IsSetOf}
use Rattle.set_walk.proofs.CircleLemmas.{is_later, later_level, later_moves, levels_same}
use Rattle.set_walk.proofs.WalkLemmas.{level_kept}
use Rattle.loop_search.specs.Looping.{ByWay, Returns, unchanged_at}
use Rattle.loop_search.proofs.LoopLemmas.{returns_first, returns_next, returns_round}
use Rattle.net_view.specs.Borrowed.{world_of}
use Rattle.set_walk.specs.Told.{AreTold}
use Rattle.set_walk.specs.Levels.{IsLevel}
use Rattle.set_walk.proofs.SetLemmas.{keeps_same, keeps_then}
use Rattle.loop_search.proofs.WholeLemmas.{whole_kept, leads_into}
use Rattle.loop_search.proofs.search.returning.Goals as goal

pub next_level-requires-clause-net : goal.next_level-requires-clause-net
next_level-requires-clause-net c = (whole_kept c.args.table.now c.loop-n.table c.args.net.now c.loop-n.invariant.kept c.requires.net).ways

pub next_level-requires-clause-within : goal.next_level-requires-clause-within
next_level-requires-clause-within c = leads_into c.loop-n.table c.args.net.now c.deref.result.now (whole_kept c.args.table.now c.loop-n.table c.args.net.now c.loop-n.invariant.kept c.requires.net)

pub next_level-requires-clause-groups : goal.next_level-requires-clause-groups
next_level-requires-clause-groups c = subst (AreTold c.loop-n.table) (sym c.deref.ensures.value) c.loop-n.invariant.level.told

pub loop-n-init : goal.loop-n-init
loop-n-init c =
    let w = world_of c.args.net.now.world in
    let f = c.args.table.now in
    record {
      kept = keeps_same f;
      below = c.nothing-found.ensures.below;
      level = c.in_ok-groups.ensures w;
      before = omega arith;
      mark = c.in_ok-first_level.ensures w;
      exact = returns_first w f f c.args.domain c.nothing-found.result c.args.place c.nothing-found.ensures.exact;
    }

pub with_unchanged-requires-clause-groups : goal.with_unchanged-requires-clause-groups
with_unchanged-requires-clause-groups c =
    let w = world_of c.args.net.now.world in
    let was = subst (IsLevel w c.args.table.now c.args.domain c.args.place c.loop-n.n c.loop-n.table) (sym c.deref.ensures.value) c.loop-n.invariant.level in
    let next = c.in_ok-steps.ensures.level c.args.table.now c.args.domain c.args.place c.loop-n.n was in
    subst (AreTold c.next_level.new.table) (sym c.deref-in-loop-n.ensures.value) next.told

pub loop-n-preserved : goal.loop-n-preserved
loop-n-preserved c =
    let w = world_of c.args.net.now.world in
    let f = c.args.table.now in
    let d = c.args.domain in
    let p = c.args.place in
    let n = c.loop-n.n in
    let t0 = c.loop-n.table in
    let t1 = c.next_level.new.table in
    let t2 = c.with_unchanged.new.table in
    let k1 = c.in_ok-steps.ensures.kept in
    let k2 = c.in_ok-found.ensures.kept in
    let k = keeps_then t0 t1 t2 k1 k2 in
    let was = subst (IsLevel w f d p n t0) (sym c.deref.ensures.value) c.loop-n.invariant.level in
    let next = c.in_ok-steps.ensures.level f d p n was in
    let level = level_kept w f t1 t2 d p (n + 1) c.in_ok-steps.steps.items k2 next in
    let found = subst (λ (xs : List Way). IsSetOf t2 c.in_ok-found.found (λ h. InSet t1 c.loop-n.found h ⊎ ByWay t1 xs (λ m _. m ≡ unchanged_at p) h)) c.deref-in-loop-n.ensures.value c.in_ok-found.ensures.set.exact in
    let exact = returns_next w f t0 t1 t2 d p n c.in_ok-steps.steps.items c.loop-n.found c.in_ok-found.found k1 c.loop-n.invariant.below next c.loop-n.invariant.exact found in
    let left = level_kept w f t0 t2 d p n c.loop-n.groups.items k c.loop-n.invariant.level in
    let old_mark = level_kept w f t0 t2 d p c.loop-n.mark.moves c.loop-n.mark.groups.items k c.loop-n.invariant.mark in
    let mark = c.later-mark.result in
    let chosen = is_later n c.loop-n.mark mark c.loop-n.groups.items c.later-mark.ensures.kept c.later-mark.ensures.moves c.later-mark.ensures.groups in
    let marked = later_level n c.loop-n.mark mark c.loop-n.groups.items w f t2 d p chosen old_mark left in
    let moves = later_moves n c.loop-n.mark mark c.loop-n.groups.items chosen c.loop-n.invariant.before in
    record {
      kept = keeps_then f t0 t2 c.loop-n.invariant.kept k;
      below = c.in_ok-found.ensures.set.below;
      level = level;
      before = omega (arith, moves);
      mark = marked;
      exact = exact;
    }

pub returns-then-same_groups-clause-set : goal.returns-then-same_groups-clause-set
returns-then-same_groups-clause-set c =
    let w = world_of c.args.net.now.world in
    let f = c.args.table.now in
    let d = c.args.domain in
    let p = c.args.place in
    let n = c.loop-n.n in
    let t0 = c.loop-n.table in
    let t1 = c.next_level.new.table in
    let t2 = c.with_unchanged.new.table in
    let k1 = c.in_ok-steps.ensures.kept in
    let k2 = c.in_ok-found.ensures.kept in
    let k = keeps_then t0 t1 t2 k1 k2 in
    let was = subst (IsLevel w f d p n t0) (sym c.deref.ensures.value) c.loop-n.invariant.level in
    let next = c.in_ok-steps.ensures.level f d p n was in
    let level = level_kept w f t1 t2 d p (n + 1) c.in_ok-steps.steps.items k2 next in
    let found = subst (λ (xs : List Way). IsSetOf t2 c.in_ok-found.found (λ h. InSet t1 c.loop-n.found h ⊎ ByWay t1 xs (λ m _. m ≡ unchanged_at p) h)) c.deref-in-loop-n.ensures.value c.in_ok-found.ensures.set.exact in
    let exact = returns_next w f t0 t1 t2 d p n c.in_ok-steps.steps.items c.loop-n.found c.in_ok-found.found k1 c.loop-n.invariant.below next c.loop-n.invariant.exact found in
    let left = level_kept w f t0 t2 d p n c.loop-n.groups.items k c.loop-n.invariant.level in
    let old_mark = level_kept w f t0 t2 d p c.loop-n.mark.moves c.loop-n.mark.groups.items k c.loop-n.invariant.mark in
    let mark = c.later-mark.result in
    let chosen = is_later n c.loop-n.mark mark c.loop-n.groups.items c.later-mark.ensures.kept c.later-mark.ensures.moves c.later-mark.ensures.groups in
    let marked = later_level n c.loop-n.mark mark c.loop-n.groups.items w f t2 d p chosen old_mark left in
    let moves = later_moves n c.loop-n.mark mark c.loop-n.groups.items chosen c.loop-n.invariant.before in
    let same = sym c.deref-in-loop-n-2.ensures.value ∙ c.same_groups.ensures.same c.if-same_groups.true ∙ c.deref-in-loop-n-3.ensures.value in
    let all = levels_same w f t2 d p mark.moves (n + 1) c.in_ok-steps.steps.items (subst (λ gs. IsLevel w f d p mark.moves t2 gs) same marked) level in
    let room : n < c.args.room = c.loop-n-test.true in
    let before : mark.moves < n + 1 = omega (arith, moves) in
    record {
      below = c.in_ok-found.ensures.set.below;
      exact = returns_round w f t2 d c.in_ok-found.found p mark.moves (n + 1) c.args.room before (omega (arith, room)) all exact;
    }

pub returns-clause-set : goal.returns-clause-set
returns-clause-set c =
    let e : c.loop-n.n ≡ c.args.room = omega (arith, c.loop-n-test.false, c.loop-n.auto.n-end) in
    record {
      below = c.loop-n.invariant.below;
      exact = subst (λ n. IsSetOf c.loop-n.table c.loop-n.found (λ h. InSet c.args.table.now c.args.domain h × Returns (world_of c.args.net.now.world) n (state_at c.args.place h))) e c.loop-n.invariant.exact;
    }
