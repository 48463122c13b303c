use Rattle.std.proofs.Common.{sym, subst, List, take, ◌+◌}
use Rattle.std.specs.Prelude.{filter}
use Rattle.set_walk.proofs.SetLemmas.{keeps_then, kept_below}
use Rattle.incr_review.specs.declared.regions.Region.{Region}
use Rattle.incr_review.specs.Again.{leaves}
use Rattle.incr_review.specs.Groups.{AreJoined}
use Rattle.incr_review.proofs.GroupLemmas.{joined_after, leaving_once}
use Rattle.incr_review.proofs.RegionLemmas.{step_kept, step_left}
use Rattle.incr_review.proofs.groups.leaving_groups.Goals as goal
use Rattle.incr_review.proofs.groups.leaving_groups.Goals.{then-not-stays+in_ok-join, else-not-stays}

pub join-requires-clause-region : goal.join-requires-clause-region
join-requires-clause-region c =
    kept_below c.args.table.now c.loop-region.table c.region-item.result.headers c.loop-region.invariant.kept (c.requires.below c.region-item.result (c.loop-region.region-index, c.loop-region-test.true, sym c.region-item.is))

pub join-requires-clause-groups : goal.join-requires-clause-groups
join-requires-clause-groups c = c.loop-region.invariant.joined.below

pub loop-region-preserved : goal.loop-region-preserved
loop-region-preserved c =
    let rs = c.args.regions.now in
    let d = c.args.device in
    let i = c.loop-region.region-index in
    let r = c.region-item.result in
    let f = c.args.table.now in
    let e = c.loop-region.table in
    let lr = c.requires.below r (i, c.loop-region-test.true, sym c.region-item.is) in
    let old = c.loop-region.invariant in
    elim c.if-not-stays.branch [
      | then-not-stays+in_ok-join w ↦ (
          let g = w.join.new.table in
          let taken = step_left d rs i r c.loop-region-test.true c.region-item.is (sym w.if-not-stays.ensures) in
          let more = joined_after f e g (filter (leaves d) (take i rs)) r c.loop-region.groups.items w.join.new.groups.items old.kept w.in_ok-join.ensures.kept lr old.joined (filter (leaves d) (take (i + 1) rs)) taken (leaving_once f d rs (i + 1) c.requires.disjoint) w.in_ok-join.ensures.joined in
          rw (w.table-is, w.groups-is) record {
            joined = more;
            kept = keeps_then f e g old.kept w.in_ok-join.ensures.kept;
          })
      | else-not-stays w ↦ (
          let taken = step_kept d rs i r c.loop-region-test.true c.region-item.is (sym w.if-not-stays.ensures) in
          rw (w.table-is, w.groups-is) record {
            joined = subst (λ (bs : List Region). AreJoined f bs e c.loop-region.groups.items) (sym taken) old.joined;
            kept = old.kept;
          })
    ]
