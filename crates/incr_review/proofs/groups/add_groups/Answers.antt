use Rattle.std.proofs.Common.{sym, subst, List, map, take, refl}
use Rattle.set_walk.proofs.SetLemmas.{keeps_then, kept_below}
use Rattle.incr_review.specs.declared.regions.Region.{Region}
use Rattle.incr_review.specs.Again.{AddsAgain}
use Rattle.incr_review.specs.Groups.{as_known}
use Rattle.net_view.specs.Borrowed.{world_of}
use Rattle.incr_review.proofs.GroupLemmas.{known_more, known_there}
use Rattle.incr_review.proofs.RegionLemmas.{adds_more, walk_kept}
use Rattle.incr_review.proofs.groups.add_groups.Goals as goal

pub add_regions-requires-clause-walk : goal.add_regions-requires-clause-walk
add_regions-requires-clause-walk c = walk_kept c.args.table.now c.loop-group.table c.args.walk c.loop-group.invariant.kept c.requires.walk

pub add_regions-requires-clause-slot : goal.add_regions-requires-clause-slot
add_regions-requires-clause-slot c = (c.requires.groups (as_known c.group-item.result) (known_there c.args.groups.now c.loop-group.group-index c.group-item.result c.loop-group-test.true c.group-item.is)).0

pub add_regions-requires-clause-headers : goal.add_regions-requires-clause-headers
add_regions-requires-clause-headers c =
    kept_below c.args.table.now c.loop-group.table c.group-item.result.headers c.loop-group.invariant.kept (c.requires.groups (as_known c.group-item.result) (known_there c.args.groups.now c.loop-group.group-index c.group-item.result c.loop-group-test.true c.group-item.is)).1

pub loop-group-preserved : goal.loop-group-preserved
loop-group-preserved c =
    let gs = c.args.groups.now in
    let i = c.loop-group.group-index in
    let q = c.group-item.result in
    let f = c.args.table.now in
    let e = c.loop-group.table in
    let g = c.add_regions.new.table in
    let walk = c.args.walk in
    let here = c.requires.groups (as_known q) (known_there gs i q c.loop-group-test.true c.group-item.is) in
    let old = c.loop-group.invariant in
    let before = c.args.after.now.items in
    let after = c.add_regions.new.regions.items in
    let more = adds_more walk _ f e g (map as_known (take i gs)) before c.loop-group.after.items after (as_known q) old.kept c.in_ok-add_regions.ensures.kept here.0 here.1 refl refl refl old.added c.in_ok-add_regions.ensures.added in
    record {
      added = subst (λ (bs : List Region). AddsAgain (world_of walk.net.now.world) walk.ttl walk.ingress.now f bs g before after) (sym (known_more gs i q c.loop-group-test.true c.group-item.is)) more;
      kept = keeps_then f e g old.kept c.in_ok-add_regions.ensures.kept;
    }
