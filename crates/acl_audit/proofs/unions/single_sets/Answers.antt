use Rattle.acl_audit.proofs.unions.single_sets.Goals as goal
use Rattle.acl_audit.proofs.UnionLemmas.{singles_more}

pub loop-e-preserved : goal.loop-e-preserved
loop-e-preserved c =
    let l = c.loop-e in
    let es = c.args.entries.now in
    rw c.in_ok-push.ensures.items (singles_more c.args.diagrams.now es c.e-item.result l.e-index c.decided_by.result l.sets.items c.loop-e-test.true c.e-item.is l.invariant (c.decided_by.ensures.set es c.requires))
