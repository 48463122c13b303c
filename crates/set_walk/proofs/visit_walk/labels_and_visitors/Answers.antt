use Rattle.std.proofs.Common.{◌≡◌, ◌<◌, ◌≤◌, ◌+◌, ◌==◌, ◌⊎◌, subst, sym, refl, arith}
use Rattle.net_view.specs.Borrowed.{world_of}
use Rattle.set_walk.specs.Told.{AreTold}
use Rattle.set_walk.specs.Levels.{IsLevel, LeadInto}
use Rattle.set_walk.specs.Circles.{IsRound}
use Rattle.set_walk.specs.Outcomes.{AreEndsOf, AreOnce, AddsOutcomes, EndsBy}
use Rattle.set_walk.specs.Visits.{AreVisitors, StandApart, AddsVisitors, ArrivesBy}
use Rattle.set_walk.proofs.SetLemmas.{keeps_same, keeps_then, kept_below}
use Rattle.set_walk.proofs.CircleLemmas.{is_later, later_level, later_moves, level_onward, ends_onward}
use Rattle.set_walk.proofs.KeyedLemmas.{all_kept, once_none}
use Rattle.set_walk.proofs.EndLemmas.{by_ends}
use Rattle.set_walk.proofs.LevelLemmas.{first_leads, lead_kept}
use Rattle.set_walk.proofs.NetLemmas.{net_kept}
use Rattle.set_walk.proofs.VisitorLemmas.{visitors_first, visitors_next, visitors_grown, visitors_onward, visitors_early}
use Rattle.set_walk.proofs.WalkLemmas.{ends_next, ends_first, level_kept, labels_early, labels_last}
use Rattle.set_walk.proofs.visit_walk.labels_and_visitors.Goals as goal

pub loop-n-init : goal.loop-n-init
loop-n-init c =
    let w = world_of c.args.net.now.world in
    record {
      kept = keeps_same c.args.table.now;
      level = c.in_ok-groups.ensures w;
      room = omega arith;
      before = omega arith;
      mark = c.in_ok-first_level.ensures w;
      within = first_leads w c.args.table.now c.args.domain c.args.net.now.scope c.args.place c.in_ok-groups.groups.items (c.in_ok-groups.ensures w) c.requires.within;
      visitors = subst (λ xs. AreVisitors w c.args.table.now c.args.domain c.args.place 0 c.args.table.now xs) (sym c.new-visitors.ensures.items) (visitors_first w c.args.table.now c.args.domain c.args.place);
      ends = subst (λ xs. AreEndsOf w c.args.table.now c.args.domain c.args.place c.args.ttl 0 c.args.table.now xs) (sym c.new-ends.ensures.items) (ends_first w c.args.table.now c.args.domain c.args.place c.args.ttl);
      once = subst AreOnce (sym c.new-ends.ensures.items) once_none;
      apart = subst StandApart (sym c.new-visitors.ensures.items) once_none;
    }

pub add_visitors-requires-clause-groups : goal.add_visitors-requires-clause-groups
add_visitors-requires-clause-groups c = subst (AreTold c.loop-n.table) (sym c.deref.ensures.value) c.loop-n.invariant.level.told

pub add_visitors-requires-clause-visitors : goal.add_visitors-requires-clause-visitors
add_visitors-requires-clause-visitors c = c.loop-n.invariant.visitors.below

pub returns-in_err-add_visitors-clause-kept : goal.returns-in_err-add_visitors-clause-kept
returns-in_err-add_visitors-clause-kept c = keeps_then c.args.table.now c.loop-n.table c.add_visitors.new.table c.loop-n.invariant.kept c.add_visitors.ensures.kept

pub next_level-requires-clause-net : goal.next_level-requires-clause-net
next_level-requires-clause-net c = net_kept c.args.table.now c.add_visitors.new.table c.args.net.now (keeps_then c.args.table.now c.loop-n.table c.add_visitors.new.table c.loop-n.invariant.kept c.in_ok-add_visitors.ensures.kept) c.requires.net

pub next_level-requires-clause-groups : goal.next_level-requires-clause-groups
next_level-requires-clause-groups c =
    let w = world_of c.args.net.now.world in
    let f = c.args.table.now in
    let d = c.args.domain in
    let p = c.args.place in
    let n = c.loop-n.n in
    let t0 = c.loop-n.table in
    let gs = c.loop-n.groups.items in
    let ta = c.add_visitors.new.table in
    let ka = c.in_ok-add_visitors.ensures.kept in
    let old = c.loop-n.invariant.level in
    let was = level_kept w f t0 ta d p n gs ka old in
    subst (AreTold ta) (sym c.deref-in-loop-n.ensures.value) was.told

pub next_level-requires-clause-within : goal.next_level-requires-clause-within
next_level-requires-clause-within c =
    let w = world_of c.args.net.now.world in
    let f = c.args.table.now in
    let d = c.args.domain in
    let p = c.args.place in
    let n = c.loop-n.n in
    let t0 = c.loop-n.table in
    let gs = c.loop-n.groups.items in
    let ta = c.add_visitors.new.table in
    let ka = c.in_ok-add_visitors.ensures.kept in
    let old = c.loop-n.invariant.level in
    let was = level_kept w f t0 ta d p n gs ka old in
    let below = kept_below f t0 c.args.net.now.scope c.loop-n.invariant.kept c.requires.net.below in
    subst (LeadInto ta c.args.net.now.scope) (sym c.deref-in-loop-n.ensures.value) (lead_kept t0 ta c.args.net.now.scope gs ka below old.told c.loop-n.invariant.within)

pub returns-in_err-steps-clause-kept : goal.returns-in_err-steps-clause-kept
returns-in_err-steps-clause-kept c =
    let w = world_of c.args.net.now.world in
    let f = c.args.table.now in
    let d = c.args.domain in
    let p = c.args.place in
    let n = c.loop-n.n in
    let t0 = c.loop-n.table in
    let gs = c.loop-n.groups.items in
    let ta = c.add_visitors.new.table in
    let ka = c.in_ok-add_visitors.ensures.kept in
    let old = c.loop-n.invariant.level in
    let was = level_kept w f t0 ta d p n gs ka old in
    keeps_then f ta c.next_level.new.table (keeps_then f t0 ta c.loop-n.invariant.kept ka) c.next_level.ensures.kept

pub add_ends-requires-clause-steps : goal.add_ends-requires-clause-steps
add_ends-requires-clause-steps c =
    let w = world_of c.args.net.now.world in
    let f = c.args.table.now in
    let d = c.args.domain in
    let p = c.args.place in
    let n = c.loop-n.n in
    let t0 = c.loop-n.table in
    let gs = c.loop-n.groups.items in
    let ta = c.add_visitors.new.table in
    let ka = c.in_ok-add_visitors.ensures.kept in
    let old = c.loop-n.invariant.level in
    let was = level_kept w f t0 ta d p n gs ka old in
    let now = subst (IsLevel w f d p n ta) (sym c.deref-in-loop-n.ensures.value) was in
    let t1 = c.next_level.new.table in
    let k1 = c.in_ok-steps.ensures.kept in
    let next = c.in_ok-steps.ensures.level f d p n now in
    subst (AreTold t1) (sym c.deref-in-loop-n-2.ensures.value) next.told

pub add_ends-requires-clause-ends : goal.add_ends-requires-clause-ends
add_ends-requires-clause-ends c = all_kept by_ends c.loop-n.table c.next_level.new.table c.loop-n.ends.items (keeps_then c.loop-n.table c.add_visitors.new.table c.next_level.new.table c.in_ok-add_visitors.ensures.kept c.in_ok-steps.ensures.kept) c.loop-n.invariant.ends.below

pub returns-in_err-add_ends-clause-kept : goal.returns-in_err-add_ends-clause-kept
returns-in_err-add_ends-clause-kept c =
    let w = world_of c.args.net.now.world in
    let f = c.args.table.now in
    let d = c.args.domain in
    let p = c.args.place in
    let n = c.loop-n.n in
    let t0 = c.loop-n.table in
    let gs = c.loop-n.groups.items in
    let ta = c.add_visitors.new.table in
    let ka = c.in_ok-add_visitors.ensures.kept in
    let old = c.loop-n.invariant.level in
    let was = level_kept w f t0 ta d p n gs ka old in
    let now = subst (IsLevel w f d p n ta) (sym c.deref-in-loop-n.ensures.value) was in
    let t1 = c.next_level.new.table in
    let k1 = c.in_ok-steps.ensures.kept in
    let next = c.in_ok-steps.ensures.level f d p n now in
    keeps_then f ta c.add_ends.new.table (keeps_then f t0 ta c.loop-n.invariant.kept ka) (keeps_then ta t1 c.add_ends.new.table k1 c.add_ends.ensures.kept)

pub returns-then-len-eq0-clause-kept : goal.returns-then-len-eq0-clause-kept
returns-then-len-eq0-clause-kept c =
    let w = world_of c.args.net.now.world in
    let f = c.args.table.now in
    let d = c.args.domain in
    let p = c.args.place in
    let n = c.loop-n.n in
    let t0 = c.loop-n.table in
    let gs = c.loop-n.groups.items in
    let ta = c.add_visitors.new.table in
    let ka = c.in_ok-add_visitors.ensures.kept in
    let old = c.loop-n.invariant.level in
    let was = level_kept w f t0 ta d p n gs ka old in
    let now = subst (IsLevel w f d p n ta) (sym c.deref-in-loop-n.ensures.value) was in
    let t1 = c.next_level.new.table in
    let k1 = c.in_ok-steps.ensures.kept in
    let next = c.in_ok-steps.ensures.level f d p n now in
    let t2 = c.add_ends.new.table in
    let k2 = c.in_ok-add_ends.ensures.kept in
    let steps = c.in_ok-steps.ensures.steps f d p n now in
    let added = subst (λ xs. AddsOutcomes t1 t2 (EndsBy t1 (n + 1 == c.args.ttl) xs) c.loop-n.ends.items c.add_ends.new.ends.items) c.deref-in-loop-n-2.ensures.value c.in_ok-add_ends.ensures.added in
    let ends = ends_next w f t0 t1 t2 d p c.args.ttl n (n + 1 == c.args.ttl) c.in_ok-steps.steps.items c.loop-n.ends.items c.add_ends.new.ends.items (keeps_then t0 ta t1 ka k1) refl c.loop-n.invariant.ends steps added in
    let level = level_kept w f t1 t2 d p (n + 1) c.in_ok-steps.steps.items k2 next in
    keeps_then f ta t2 (keeps_then f t0 ta c.loop-n.invariant.kept ka) (keeps_then ta t1 t2 k1 k2)

pub returns-then-len-eq0-clause-labels : goal.returns-then-len-eq0-clause-labels
returns-then-len-eq0-clause-labels c =
    let w = world_of c.args.net.now.world in
    let f = c.args.table.now in
    let d = c.args.domain in
    let p = c.args.place in
    let n = c.loop-n.n in
    let t0 = c.loop-n.table in
    let gs = c.loop-n.groups.items in
    let ta = c.add_visitors.new.table in
    let ka = c.in_ok-add_visitors.ensures.kept in
    let old = c.loop-n.invariant.level in
    let was = level_kept w f t0 ta d p n gs ka old in
    let now = subst (IsLevel w f d p n ta) (sym c.deref-in-loop-n.ensures.value) was in
    let t1 = c.next_level.new.table in
    let k1 = c.in_ok-steps.ensures.kept in
    let next = c.in_ok-steps.ensures.level f d p n now in
    let t2 = c.add_ends.new.table in
    let k2 = c.in_ok-add_ends.ensures.kept in
    let steps = c.in_ok-steps.ensures.steps f d p n now in
    let added = subst (λ xs. AddsOutcomes t1 t2 (EndsBy t1 (n + 1 == c.args.ttl) xs) c.loop-n.ends.items c.add_ends.new.ends.items) c.deref-in-loop-n-2.ensures.value c.in_ok-add_ends.ensures.added in
    let ends = ends_next w f t0 t1 t2 d p c.args.ttl n (n + 1 == c.args.ttl) c.in_ok-steps.steps.items c.loop-n.ends.items c.add_ends.new.ends.items (keeps_then t0 ta t1 ka k1) refl c.loop-n.invariant.ends steps added in
    let level = level_kept w f t1 t2 d p (n + 1) c.in_ok-steps.steps.items k2 next in
    let l : n < c.args.ttl = c.loop-n-test.true in
    labels_early w f t2 d p c.args.ttl (n + 1) c.in_ok-steps.steps.items c.add_ends.new.ends.items (omega (arith, l)) (omega (arith, c.if-len-eq0.true, c.len.ensures)) level ends

pub returns-then-len-eq0-clause-visitors : goal.returns-then-len-eq0-clause-visitors
returns-then-len-eq0-clause-visitors c =
    let w = world_of c.args.net.now.world in
    let f = c.args.table.now in
    let d = c.args.domain in
    let p = c.args.place in
    let n = c.loop-n.n in
    let t0 = c.loop-n.table in
    let gs = c.loop-n.groups.items in
    let ta = c.add_visitors.new.table in
    let ka = c.in_ok-add_visitors.ensures.kept in
    let old = c.loop-n.invariant.level in
    let was = level_kept w f t0 ta d p n gs ka old in
    let now = subst (IsLevel w f d p n ta) (sym c.deref-in-loop-n.ensures.value) was in
    let t1 = c.next_level.new.table in
    let k1 = c.in_ok-steps.ensures.kept in
    let next = c.in_ok-steps.ensures.level f d p n now in
    let arrived = subst (λ xs. AddsVisitors t0 ta (ArrivesBy t0 xs) c.loop-n.visitors.items c.add_visitors.new.visitors.items) c.deref.ensures.value c.in_ok-add_visitors.ensures.added in
    let visitors = visitors_next w f t0 ta d p n gs c.loop-n.visitors.items c.add_visitors.new.visitors.items c.loop-n.invariant.visitors old arrived in
    let t2 = c.add_ends.new.table in
    let k2 = c.in_ok-add_ends.ensures.kept in
    let steps = c.in_ok-steps.ensures.steps f d p n now in
    let added = subst (λ xs. AddsOutcomes t1 t2 (EndsBy t1 (n + 1 == c.args.ttl) xs) c.loop-n.ends.items c.add_ends.new.ends.items) c.deref-in-loop-n-2.ensures.value c.in_ok-add_ends.ensures.added in
    let ends = ends_next w f t0 t1 t2 d p c.args.ttl n (n + 1 == c.args.ttl) c.in_ok-steps.steps.items c.loop-n.ends.items c.add_ends.new.ends.items (keeps_then t0 ta t1 ka k1) refl c.loop-n.invariant.ends steps added in
    let level = level_kept w f t1 t2 d p (n + 1) c.in_ok-steps.steps.items k2 next in
    let l : n < c.args.ttl = c.loop-n-test.true in
    visitors_early w f t2 d p c.args.ttl (n + 1) c.in_ok-steps.steps.items c.add_visitors.new.visitors.items (omega (arith, l)) (omega (arith, c.if-len-eq0.true, c.len.ensures)) level (visitors_grown w f ta t2 d p (n + 1) c.add_visitors.new.visitors.items (keeps_then ta t1 t2 k1 k2) visitors)

pub loop-n-preserved : goal.loop-n-preserved
loop-n-preserved c =
    let w = world_of c.args.net.now.world in
    let f = c.args.table.now in
    let d = c.args.domain in
    let p = c.args.place in
    let n = c.loop-n.n in
    let t0 = c.loop-n.table in
    let gs = c.loop-n.groups.items in
    let ta = c.add_visitors.new.table in
    let ka = c.in_ok-add_visitors.ensures.kept in
    let old = c.loop-n.invariant.level in
    let was = level_kept w f t0 ta d p n gs ka old in
    let now = subst (IsLevel w f d p n ta) (sym c.deref-in-loop-n.ensures.value) was in
    let t1 = c.next_level.new.table in
    let k1 = c.in_ok-steps.ensures.kept in
    let next = c.in_ok-steps.ensures.level f d p n now in
    let arrived = subst (λ xs. AddsVisitors t0 ta (ArrivesBy t0 xs) c.loop-n.visitors.items c.add_visitors.new.visitors.items) c.deref.ensures.value c.in_ok-add_visitors.ensures.added in
    let visitors = visitors_next w f t0 ta d p n gs c.loop-n.visitors.items c.add_visitors.new.visitors.items c.loop-n.invariant.visitors old arrived in
    let t2 = c.add_ends.new.table in
    let k2 = c.in_ok-add_ends.ensures.kept in
    let steps = c.in_ok-steps.ensures.steps f d p n now in
    let added = subst (λ xs. AddsOutcomes t1 t2 (EndsBy t1 (n + 1 == c.args.ttl) xs) c.loop-n.ends.items c.add_ends.new.ends.items) c.deref-in-loop-n-2.ensures.value c.in_ok-add_ends.ensures.added in
    let ends = ends_next w f t0 t1 t2 d p c.args.ttl n (n + 1 == c.args.ttl) c.in_ok-steps.steps.items c.loop-n.ends.items c.add_ends.new.ends.items (keeps_then t0 ta t1 ka k1) refl c.loop-n.invariant.ends steps added in
    let level = level_kept w f t1 t2 d p (n + 1) c.in_ok-steps.steps.items k2 next in
    let below = kept_below f t1 c.args.net.now.scope (keeps_then f ta t1 (keeps_then f t0 ta c.loop-n.invariant.kept ka) k1) c.requires.net.below in
    let t = c.args.ttl in
    let x = c.onward-n.result in
    let groups = c.in_ok-steps.steps.items in
    let k = keeps_then t0 ta t2 ka (keeps_then ta t1 t2 k1 k2) in
    let left = level_kept w f t0 t2 d p n gs k old in
    let old_mark = level_kept w f t0 t2 d p c.loop-n.mark.moves c.loop-n.mark.groups.items k c.loop-n.invariant.mark in
    let mark = c.later-mark.result in
    let chosen = is_later n c.loop-n.mark mark gs c.later-mark.ensures.kept c.later-mark.ensures.moves c.later-mark.ensures.groups in
    let marked = later_level n c.loop-n.mark mark gs w f t2 d p chosen old_mark left in
    let moves = later_moves n c.loop-n.mark mark gs chosen c.loop-n.invariant.before in
    let before : mark.moves < n + 1 = omega (arith, moves) in
    let round = subst (λ gs. (x ≡ n + 1) ⊎ IsRound mark (n + 1) gs t x) c.deref-in-loop-n-3.ensures.value c.onward-n.ensures.round in
    let after : n + 1 ≤ x = c.onward-n.ensures.after in
    let visited = visitors_grown w f ta t2 d p (n + 1) c.add_visitors.new.visitors.items (keeps_then ta t1 t2 k1 k2) visitors in
    record {
      kept = keeps_then f t0 t2 c.loop-n.invariant.kept k;
      room = c.onward-n.ensures.within;
      before = omega (arith, moves, after);
      mark = marked;
      level = level_onward w f t2 d p t (n + 1) x mark groups before round marked level;
      within = lead_kept t1 t2 c.args.net.now.scope groups k2 below next.told c.in_ok-steps.ensures.within;
      visitors = visitors_onward w f t2 d p t (n + 1) x mark groups c.add_visitors.new.visitors.items before after round marked level visited;
      ends = ends_onward w f t2 d p t (n + 1) x mark groups c.add_ends.new.ends.items before after round marked level ends;
      once = c.in_ok-add_ends.ensures.once c.loop-n.invariant.once;
      apart = c.in_ok-add_visitors.ensures.once c.loop-n.invariant.apart;
    }

pub returns-clause-labels : goal.returns-clause-labels
returns-clause-labels c =
    let room : c.loop-n.n ≤ c.args.ttl = c.loop-n.invariant.room in
    let e : c.loop-n.n ≡ c.args.ttl = omega (arith, c.loop-n-test.false, room) in
    labels_last (world_of c.args.net.now.world) c.args.table.now c.loop-n.table c.args.domain c.args.place c.args.ttl c.loop-n.n c.loop-n.ends.items e c.loop-n.invariant.ends

pub returns-clause-kept : goal.returns-clause-kept
returns-clause-kept c = c.loop-n.invariant.kept

pub returns-clause-visitors : goal.returns-clause-visitors
returns-clause-visitors c =
    let room : c.loop-n.n ≤ c.args.ttl = c.loop-n.invariant.room in
    let e : c.loop-n.n ≡ c.args.ttl = omega (arith, c.loop-n-test.false, room) in
    subst (λ k. AreVisitors (world_of c.args.net.now.world) c.args.table.now c.args.domain c.args.place k c.loop-n.table c.loop-n.visitors.items) e c.loop-n.invariant.visitors
