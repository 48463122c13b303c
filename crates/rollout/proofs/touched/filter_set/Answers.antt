use Rattle.set_walk.proofs.SetLemmas.{cube_set}
use Rattle.rollout.proofs.touched.filter_set.Goals as goal

pub returns-clause-set : goal.returns-clause-set
returns-clause-set c =
    record {
      below = c.in_ok-set.ensures.below;
      exact = cube_set c.add_entry.new.self c.args.filter.now c.in_ok-set.set _ (λ h v. (λ i. i, λ i. i)) c.in_ok-set.ensures.exact;
    }
