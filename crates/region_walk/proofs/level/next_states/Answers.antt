use Rattle.std.proofs.Common.{◌≡◌, refl, subst, slice_index_or, []}
use Rattle.std.specs.Prelude.{flat_map}
use Rattle.std.proofs.lemmas.List.{take_all}
use Rattle.transfer_rel.specs.CubeMoves.{SameSet}
use Rattle.region_walk.specs.Lists.{items_at}
use Rattle.region_walk.specs.Visits.{next_numbers}
use Rattle.region_walk.proofs.LoopLemmas.{grow_items}
use Rattle.region_walk.proofs.level.next_states.Goals as goal

pub loop-state-preserved : goal.loop-state-preserved
loop-state-preserved c = grow_items next_numbers c.args.visits.now c.args.states.now c.loop-state.state-index (slice_index_or c.args.states.now c.loop-state.state-index 0) [] c.loop-state.next.items c.add_next.new.next.items c.loop-state-test.true refl c.loop-state.invariant c.in_ok-add_next.ensures

pub returns : goal.returns
returns c =
    subst (SameSet c.in_ok-next.next.items) (subst (λ ns. c.loop-state.next.items ≡ flat_map next_numbers (items_at c.args.visits.now ns)) (take_all c.loop-state.state-index c.args.states.now c.loop-state-test.false) c.loop-state.invariant) c.in_ok-next.ensures
