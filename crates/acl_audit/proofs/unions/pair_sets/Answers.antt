use Rattle.std.proofs.Common.{◌≡◌, ◌+◌, suc, arith, subst}
use Rattle.acl_audit.specs.Sets.{AreLevel}
use Rattle.acl_audit.proofs.unions.pair_sets.Goals as goal
use Rattle.acl_audit.proofs.UnionLemmas.{pairs_more}

pub loop-k-preserved : goal.loop-k-preserved
loop-k-preserved c =
    let l = c.loop-k in
    let t = c.loop-k-test.true in
    rw c.in_ok-push.ensures.items (pairs_more c.args.diagrams.now l.diagrams c.add_set.new.diagrams c.args.sets.now l.unions.items l.k c.in_ok-union.union (omega (arith, t)) c.in_ok-union.ensures.kept l.invariant c.in_ok-union.ensures.set)

pub returns-clause-unions : goal.returns-clause-unions
returns-clause-unions c es level s =
    let up : suc level ≡ level + 1 = omega arith in
    subst (λ n. AreLevel c.loop-k.diagrams es n c.loop-k.unions.items) up (c.loop-k.invariant.made es level s)
