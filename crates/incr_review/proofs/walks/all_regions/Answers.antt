use Rattle.std.proofs.Common.{rules, subst, sym, List, ◌+◌}
use Rattle.set_walk.proofs.SetLemmas.{keeps_then}
use Rattle.net_view.specs.Borrowed.{world_of}
use Rattle.incr_review.specs.declared.regions.Region.{Region}
use Rattle.incr_review.specs.Opened.{AreOpened}
use Rattle.incr_review.proofs.RegionLemmas.{walk_kept}
use Rattle.incr_review.proofs.ReviewLemmas.{opened_more}
use Rattle.incr_review.proofs.walks.all_regions.Goals as goal

pub add_regions-requires-clause-walk : goal.add_regions-requires-clause-walk
add_regions-requires-clause-walk c = walk_kept c.args.table.now c.loop-slot.table c.args.walk c.loop-slot.invariant.kept c.requires.walk

pub loop-slot-preserved : goal.loop-slot-preserved
loop-slot-preserved c =
    let walk = c.args.walk in
    let f = c.args.table.now in
    let e = c.loop-slot.table in
    let g = c.add_regions.new.table in
    let a = c.in_ok-add_regions.ensures.added in
    let kept = keeps_then f e g c.loop-slot.invariant.kept c.in_ok-add_regions.ensures.kept in
    let own = a.are in
    record {
      opened = subst (λ (rs : List Region). AreOpened (world_of walk.net.now.world) walk.ttl walk.ingress.now g (c.loop-slot.slot + 1) rs) (sym a.added)
          (opened_more (world_of walk.net.now.world) walk.ttl walk.ingress.now e g c.loop-slot.slot walk.net.now.scope c.loop-slot.regions.items a.more c.in_ok-add_regions.ensures.kept (search rules) (walk_kept f g walk kept c.requires.walk).all c.loop-slot.invariant.opened own);
      kept = kept;
    }
