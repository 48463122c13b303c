use Rattle.set_walk.proofs.SetLemmas.{cube_set}
use Rattle.loop_search.proofs.WayLemmas.{ok_both}
use Rattle.ask_query.proofs.answers.filter_set.Goals as goal

pub returns-clause-set : goal.returns-clause-set
returns-clause-set c =
    ok_both c.add_entry.result _ _ _ (λ set below exact. record {
      below = below;
      exact = cube_set c.add_entry.new.self c.args.filter.now set _ (λ h v. (λ i. i, λ i. i)) exact;
    }) c.add_entry.ensures.below c.add_entry.ensures.exact
