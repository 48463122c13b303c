use Rattle.region_walk.proofs.LoopLemmas.{outcomes_none, outcomes_one}
use Rattle.region_walk.proofs.outcomes.add_outcomes_of.Goals as goal

pub returns-in_default : goal.returns-in_default
returns-in_default c =
    let h = c.in_default.ensures.lookup in
    outcomes_none c.args.visits.now c.args.state c.args.last c.args.outcomes.now.items h.3

pub returns : goal.returns
returns c =
    let h = c.in-Some.ensures.lookup in
    outcomes_one c.args.visits.now c.args.state c.in-Some.visit.now c.args.last c.args.outcomes.now.items c.add_outcomes_by.new.outcomes.items c.as_slice.result.now h.3.0 h.1 c.as_slice.ensures c.in_ok-add_outcomes_by.ensures
