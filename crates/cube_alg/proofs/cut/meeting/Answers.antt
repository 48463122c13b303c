use Rattle.std.proofs.Common.{true≢false, sym, ◌∙◌}
use Rattle.cube_alg.proofs.ValueLemmas.{part_skip, part_take, part_stop, stars_take}
use Rattle.cube_alg.proofs.cut.meeting.Goals as goal

pub loop-p-preserved-then-not-meets : goal.loop-p-preserved-then-not-meets
loop-p-preserved-then-not-meets c =
    (part_skip c.args.node.now c.args.pieces.now c.loop-p.kept.items c.loop-p.p-index c.p-item.result c.loop-p-test.true c.p-item.is (λ m. let t = c.meets.ensures.masks.1 m in true≢false (sym t ∙ c.if-not-meets.true)) c.loop-p.invariant.0, c.loop-p.invariant.1)

pub returns-then-is_wider-clause-meets : goal.returns-then-is_wider-clause-meets
returns-then-is_wider-clause-meets c =
    let a = part_stop c.args.node.now c.args.pieces.now c.loop-p.kept.items c.loop-p.p-index c.p-item.result c.loop-p-test.true c.p-item.is (c.meets.ensures.masks.0 c.if-not-meets.false) (c.is_wider.ensures.0 c.if-is_wider.true) c.loop-p.invariant.0 in
    rw c.in_ok-push.ensures.items a.meets

pub returns-then-is_wider-clause-value : goal.returns-then-is_wider-clause-value
returns-then-is_wider-clause-value c =
    let a = part_stop c.args.node.now c.args.pieces.now c.loop-p.kept.items c.loop-p.p-index c.p-item.result c.loop-p-test.true c.p-item.is (c.meets.ensures.masks.0 c.if-not-meets.false) (c.is_wider.ensures.0 c.if-is_wider.true) c.loop-p.invariant.0 in
    rw c.in_ok-push.ensures.items a.value

pub loop-p-preserved : goal.loop-p-preserved
loop-p-preserved c =
    rw c.in_ok-push.ensures.items ((part_take c.args.node.now c.args.pieces.now c.loop-p.kept.items c.loop-p.p-index c.p-item.result c.loop-p-test.true c.p-item.is (c.meets.ensures.masks.0 c.if-not-meets.false) c.loop-p.invariant.0), stars_take c.args.pieces.now c.loop-p.kept.items c.loop-p.p-index c.p-item.result c.loop-p-test.true c.p-item.is c.loop-p.invariant.1)

pub returns-then-is_wider-clause-stars : goal.returns-then-is_wider-clause-stars
returns-then-is_wider-clause-stars c =
    let a = stars_take c.args.pieces.now c.loop-p.kept.items c.loop-p.p-index c.p-item.result c.loop-p-test.true c.p-item.is c.loop-p.invariant.1 in
    rw c.in_ok-push.ensures.items a.stars
