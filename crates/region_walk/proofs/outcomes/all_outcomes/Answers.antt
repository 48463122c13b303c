use Rattle.std.proofs.Common.{◌≡◌, true, false, ◌-◌, ◌++◌, ◌∙◌, arith}
use Rattle.std.specs.Prelude.{flat_map}
use Rattle.region_walk.specs.Lists.{items_at}
use Rattle.region_walk.specs.Visits.{visit_outcomes}
use Rattle.region_walk.proofs.Turns.{outcomes_are}
use Rattle.region_walk.proofs.outcomes.all_outcomes.Goals as goal

pub returns : goal.returns
returns c =
    let vs = c.args.visits.now in
    let early : c.add_outcomes.new.outcomes.items ≡ flat_map (visit_outcomes false) (items_at vs c.in_ok-before.before.items) =
    c.in_ok-add_outcomes.ensures ∙ (λ i. c.new-outcomes.ensures.items i ++ flat_map (visit_outcomes false) (items_at vs (c.deref.ensures.value i))) in
    outcomes_are vs c.args.levels.now c.args.ttl (c.args.ttl - 1) c.in_ok-before.before.items c.add_outcomes-2.new.outcomes.items (omega (arith, c.requires)) c.in_ok-before.ensures
    (c.in_ok-add_outcomes-2.ensures ∙ (λ i. early i ++ flat_map (visit_outcomes true) (items_at vs (c.states_at.ensures i))))
