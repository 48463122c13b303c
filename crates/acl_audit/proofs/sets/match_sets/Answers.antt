use Rattle.std.proofs.Common.{arith}
use Rattle.acl_audit.proofs.sets.match_sets.Goals as goal
use Rattle.acl_audit.proofs.LoopLemmas.{matched_all, matched_more}

pub loop-e-preserved : goal.loop-e-preserved
loop-e-preserved c =
    let l = c.loop-e in
    rw c.in_ok-push.ensures.items (matched_more c.args.diagrams.now l.diagrams c.match_set.new.diagrams c.args.entries.now l.e-index l.sets.items c.e-item.result c.in_ok-set.set c.e-item.is c.in_ok-set.ensures.kept l.invariant c.in_ok-set.ensures.set)

pub returns-clause-sets : goal.returns-clause-sets
returns-clause-sets c =
    let l = c.loop-e in
    let t = c.loop-e-test.false in
    matched_all c.args.diagrams.now l.diagrams c.args.entries.now l.sets.items l.e-index (omega (arith, t)) (omega arith) l.invariant
