use Rattle.std.proofs.Common.{◌≡◌, ◌<◌, ◌-◌, sym, subst, arith, length}
use Rattle.net_view.specs.Borrowed.{world_of}
use Rattle.set_walk.specs.Told.{AreTold}
use Rattle.set_walk.specs.Levels.{IsLevel}
use Rattle.set_walk.proofs.SetLemmas.{keeps_same, keeps_then, kept_below, kept_set}
use Rattle.loop_search.proofs.WholeLemmas.{whole_kept}
use Rattle.set_walk.proofs.ToldLemmas.{told_kept}
use Rattle.set_walk.proofs.WalkLemmas.{level_kept}
use Rattle.loop_search.proofs.LoopLemmas.{loops_first, loops_next, loops_all, loops_last}
use Rattle.loop_search.proofs.WayLemmas.{at_position}
use Rattle.loop_search.proofs.search.looping_in.Goals as goal

pub headers_of-requires : goal.headers_of-requires
headers_of-requires c =
    let i = c.from.result in
    let l : i < length c.args.levels.now = omega (arith, c.from.ensures, c.requires.count, c.requires.ttl) in
    let there = at_position c.args.levels.now i c.index-levels-from.result l c.index-levels-from.is in
    record { groups = subst (AreTold c.args.table.now) (sym c.deref.ensures.value) (c.requires.levels i c.index-levels-from.result there) }

pub loop-room-init : goal.loop-room-init
loop-room-init c =
    let w = world_of c.args.net.now.world in
    let g = c.headers_of.new.table in
    record {
      kept = c.in_ok-lasting.ensures.kept;
      since = keeps_same g;
      below = c.nothing-found.ensures.below;
      exact = λ start domain p levels. loops_first w start g domain c.nothing-found.result c.args.ttl p c.nothing-found.ensures.exact;
    }

pub with_returning_from-requires-clause-net : goal.with_returning_from-requires-clause-net
with_returning_from-requires-clause-net c = whole_kept c.args.table.now c.loop-room.table c.args.net.now c.loop-room.invariant.kept c.requires.net

pub with_returning_from-requires-clause-groups : goal.with_returning_from-requires-clause-groups
with_returning_from-requires-clause-groups c =
    let i = c.from-in-loop-room.result in
    let l : i < length c.args.levels.now = omega (arith, c.from-in-loop-room.ensures, c.requires.count, c.requires.ttl) in
    let there = at_position c.args.levels.now i c.index-levels-from-in-loop-room.result l c.index-levels-from-in-loop-room.is in
    subst (AreTold c.loop-room.table) (sym c.deref-in-loop-room.ensures.value) (told_kept c.args.table.now c.loop-room.table c.index-levels-from-in-loop-room.result.groups.items c.loop-room.invariant.kept (c.requires.levels i c.index-levels-from-in-loop-room.result there))

pub with_returning_from-requires-clause-lasting : goal.with_returning_from-requires-clause-lasting
with_returning_from-requires-clause-lasting c = kept_below c.headers_of.new.table c.loop-room.table c.in_ok-lasting.lasting c.loop-room.invariant.since c.in_ok-lasting.ensures.set.below

pub loop-room-preserved : goal.loop-room-preserved
loop-room-preserved c =
    let w = world_of c.args.net.now.world in
    let f = c.args.table.now in
    let g = c.headers_of.new.table in
    let t0 = c.loop-room.table in
    let t1 = c.with_returning_from.new.table in
    let k = c.in_ok-found.ensures.kept in
    let room = c.loop-room.room in
    let less : room < c.args.ttl = c.loop-room-test.true in
    let i = c.from-in-loop-room.result in
    let is : i ≡ c.args.ttl - 1 - room = c.from-in-loop-room.ensures in
    let l : i < length c.args.levels.now = omega (arith, is, c.requires.count, less) in
    let there = at_position c.args.levels.now i c.index-levels-from-in-loop-room.result l c.index-levels-from-in-loop-room.is in
    let j = c.from.result in
    let end : j ≡ c.args.ttl - 1 = c.from.ensures in
    let m : j < length c.args.levels.now = omega (arith, end, c.requires.count, c.requires.ttl) in
    let last = at_position c.args.levels.now j c.index-levels-from.result m c.index-levels-from.is in
    record {
      kept = keeps_then f t0 t1 c.loop-room.invariant.kept k;
      since = keeps_then g t0 t1 c.loop-room.invariant.since k;
      below = c.in_ok-found.ensures.set.below;
      exact = λ start domain p levels.
          let level = level_kept w start f t0 domain p i c.index-levels-from-in-loop-room.result.groups.items c.loop-room.invariant.kept (levels i c.index-levels-from-in-loop-room.result there) in
          let final = subst (λ n. IsLevel w start domain p n f c.index-levels-from.result.groups.items) end (levels j c.index-levels-from.result last) in
          loops_next w start t0 t1 domain c.args.ttl room i p c.deref-in-loop-room.result.now c.in_ok-lasting.lasting c.loop-room.found c.in_ok-found.found less is
          (subst (λ gs. IsLevel w start domain p i t0 gs) (sym c.deref-in-loop-room.ensures.value) level)
          (λ h v inside loop.
          let group = loops_last w start f domain c.args.ttl p c.deref.result.now h v c.requires.ttl (subst (λ gs. IsLevel w start domain p (c.args.ttl - 1) f gs) (sym c.deref.ensures.value) final) inside loop in
          (kept_set g t0 c.in_ok-lasting.lasting h c.loop-room.invariant.since c.in_ok-lasting.ensures.set.below).1 ((c.in_ok-lasting.ensures.set.exact h v).1 group))
          (c.loop-room.invariant.exact start domain p levels)
          c.in_ok-found.ensures.set.exact;
    }

pub returns-clause-set : goal.returns-clause-set
returns-clause-set c start domain p levels =
    let e : c.loop-room.room ≡ c.args.ttl = omega (arith, c.loop-room-test.false, c.loop-room.auto.room-end) in
    record {
      below = c.loop-room.invariant.below;
      exact = loops_all (world_of c.args.net.now.world) start c.loop-room.table domain c.loop-room.found c.args.ttl c.loop-room.room p e (c.loop-room.invariant.exact start domain p levels);
    }
