use Rattle.acl_audit.proofs.tails.put_before.Goals as goal
use Rattle.acl_audit.proofs.SetLemmas.{permit_set, deny_set, without_set}

pub returns-then-entry-clause-set : goal.returns-then-entry-clause-set
returns-then-entry-clause-set c t s =
    permit_set c.args.entry.now c.add_set.new.diagrams t c.in_ok-both.both c.if-entry.true (c.in_ok-both.ensures.set _ t c.requires.matched s)

pub returns-clause-set : goal.returns-clause-set
returns-clause-set c t s =
    deny_set c.args.entry.now c.without.new.self t c.in_ok-rest.rest c.if-entry.false (without_set c.args.diagrams.now c.without.new.self t _ c.args.passed c.args.matched c.in_ok-rest.rest c.in_ok-rest.ensures.below c.in_ok-rest.ensures.exact s c.requires.matched)
