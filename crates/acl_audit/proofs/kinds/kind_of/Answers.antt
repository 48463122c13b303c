use Rattle.acl_audit.proofs.kinds.kind_of.Goals as goal
use Rattle.acl_audit.proofs.KindLemmas.{both_ways}

pub returns-then-is_dead-clause-kind : goal.returns-then-is_dead-clause-kind
returns-then-is_dead-clause-kind c e q = (c.is_dead.ensures c.args.audited.entries.now c.args.position e q c.requires.own).0 c.if-is_dead.true

pub returns-then-same-clause-kind : goal.returns-then-same-clause-kind
returns-then-same-clause-kind c e q =
    record {
      alive = λ d. both_ways c.is_dead.result c.if-is_dead.false ((c.is_dead.ensures c.args.audited.entries.now c.args.position e q c.requires.own).1 d);
      same = c.in_ok-same.ensures.same.0 c.if-same.true;
    }

pub returns-clause-kind : goal.returns-clause-kind
returns-clause-kind c e q = (
  λ d. both_ways c.is_dead.result c.if-is_dead.false ((c.is_dead.ensures c.args.audited.entries.now c.args.position e q c.requires.own).1 d),
  λ r. both_ways c.in_ok-same.same c.if-same.false (c.in_ok-same.ensures.same.1 r.same),
)
