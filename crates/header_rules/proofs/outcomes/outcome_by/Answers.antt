use Rattle.header_rules.proofs.outcomes.outcome_by.Goals as goal

pub returns-then-last : goal.returns-then-last
returns-then-last c = rw c.if-last.true (c.last_outcome_by.ensures c.args.first.now)
