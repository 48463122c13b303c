use Rattle.std.proofs.Common.{refl}
use Rattle.acl_match.proofs.FieldLemmas.{meets_more, meets_skip}
use Rattle.acl_match.proofs.fields.add_meets.Goals as goal

pub loop-t-preserved : goal.loop-t-preserved
loop-t-preserved c =
    rw c.in_ok-push.ensures.items (meets_more c.args.c.now c.args.tests.now c.args.cubes.now.items c.loop-t.cubes.items c.loop-t.t-index c.t-item.result c.in-Some.both c.loop-t-test.true c.t-item.is c.in-Some.ensures.both c.loop-t.invariant)

pub loop-t-preserved-in_default : goal.loop-t-preserved-in_default
loop-t-preserved-in_default c =
    meets_skip c.args.c.now c.args.tests.now c.args.cubes.now.items c.loop-t.cubes.items c.loop-t.t-index c.t-item.result c.loop-t-test.true c.t-item.is (c.in_default.ensures.none.0 refl) c.loop-t.invariant
