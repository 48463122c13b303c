use Rattle.acl_audit.proofs.sets.match_set.Goals as goal
use Rattle.acl_audit.proofs.SetLemmas.{entry_set}

pub returns-clause-set : goal.returns-clause-set
returns-clause-set c =
    entry_set c.add_entry.new.self c.args.entry.now c.in_ok-cubes.cubes.items c.in_ok-set.set c.in_ok-set.ensures.below (λ h. let e = c.in_ok-set.ensures.exact h in rw c.deref.ensures.value at e) c.in_ok-cubes.ensures.test
