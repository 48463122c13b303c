use Rattle.std.proofs.Common.{refl, slice_index_or}
use Rattle.region_walk.specs.Visits.{visit_outcomes}
use Rattle.region_walk.proofs.LoopLemmas.{grow_items}
use Rattle.region_walk.proofs.outcomes.add_outcomes.Goals as goal

pub loop-state-preserved : goal.loop-state-preserved
loop-state-preserved c = grow_items (visit_outcomes c.args.last) c.args.visits.now c.args.states.now c.loop-state.state-index (slice_index_or c.args.states.now c.loop-state.state-index 0) c.args.outcomes.now.items c.loop-state.outcomes.items c.add_outcomes_of.new.outcomes.items c.loop-state-test.true refl c.loop-state.invariant c.in_ok-add_outcomes_of.ensures
