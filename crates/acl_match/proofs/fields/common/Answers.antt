use Rattle.acl_match.proofs.fields.common.Goals as goal
use Rattle.acl_match.proofs.TestLemmas.{common_test}

pub returns-in-Some : goal.returns-in-Some
returns-in-Some c h =
    rw c.in-Some.is (common_test c.in-Some.a c.args.b.now c.meet.result h c.meet.ensures.both c.meet.ensures.none)
