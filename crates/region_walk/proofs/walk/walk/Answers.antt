use Rattle.std.proofs.Common.{◌≡◌, ◌∷◌, ◌++◌, [], ◌+◌, length, sym, ap, subst, ◌∙◌, arith}
use Rattle.std.specs.Prelude.{flat_map}
use Rattle.hdr_bits.specs.HeaderBits.{IsHeader}
use Rattle.net_forms.specs.Worlds.{world_in}
use Rattle.transfer_rel.specs.CubeMoves.{SameSet}
use Rattle.region_walk.specs.declared.level.Level.{Level}
use Rattle.region_walk.specs.Lists.{items_at}
use Rattle.region_walk.specs.Spots.{spot_at, IsBase}
use Rattle.region_walk.specs.Visits.{next_numbers, AreVisited}
use Rattle.region_walk.specs.Seen.{OfSweep}
use Rattle.region_walk.proofs.Turns.{start_visited, start_states, start_done, states_turn, done_turn, graph_at_end, empty_if}
use Rattle.region_walk.proofs.DivisionLemmas.{start_fresh, fresh_turn, divides_on_the_way}
use Rattle.region_walk.proofs.walk.walk.Goals as goal

pub loop-n-init : goal.loop-n-init
loop-n-init c =
    let w = world_in c.args.prepared.now c.args.version in
    let k = c.args.cube.now in
    let g = c.least-first.result in
    let p = c.args.place in
    let is = c.new.ensures ∙ ap (spot_at p) c.none.ensures in
    let old = c.new-spots.result.keys in
    let spots = c.number_of.new.spots.keys in
    let number = c.in_ok-number_of.field-0 in
    let pushed : c.push.new.self.items ≡ number ∷ [] = c.in_ok-push.ensures.items ∙ (λ i. c.new-states.ensures.items i ++ (number ∷ [])) in
    record {
      visited = subst (AreVisited w k g spots) (sym c.new-visits.ensures.items) (start_visited w k g p c.new.result is old spots c.new-spots.ensures.empty c.in_ok-number_of.ensures.adds);
      done = start_done w k g p c.new-visits.result.items c.new-levels.result.items c.new-levels.ensures.items;
      states = start_states w k g p c.new.result is old spots c.new-spots.ensures.empty c.in_ok-number_of.ensures.adds number c.push.new.self.items c.in_ok-number_of.ensures.number pushed;
      fresh = start_fresh c.new.result old spots c.new-visits.result.items number c.push.new.self.items c.new-spots.ensures.empty c.in_ok-number_of.ensures.adds c.in_ok-number_of.ensures.number pushed;
    }

pub loop-n-preserved : goal.loop-n-preserved
loop-n-preserved c =
    let w = world_in c.args.prepared.now c.args.version in
    let k = c.args.cube.now in
    let g = c.least-first.result in
    let p = c.args.place in
    let n = c.loop-n._n in
    let spots = c.loop-n.spots.keys in
    let new = c.visit_new.new.spots.keys in
    let before = c.loop-n.visits.items in
    let visits = c.visit_new.new.visits.items in
    let states = c.loop-n.states.items in
    let next = c.in_ok-states.states.items in
    let grows = c.in_ok-bit.ensures.spots in
    let all = subst (OfSweep w k g before spots new visits) c.in-All.is c.in_ok-bit.ensures.sweep in
    let l : Level = record { states = c.new-in-loop-n.result } in
    let same : SameSet next (flat_map next_numbers (items_at visits states)) =
    subst (λ ns. SameSet next (flat_map next_numbers (items_at visits ns))) c.deref-in-loop-n.ensures.value
    (subst (λ vs. SameSet next (flat_map next_numbers (items_at vs c.deref-in-loop-n.result.now))) c.deref.ensures.value c.in_ok-states.ensures) in
    record {
      visited = all.right;
      done = done_turn w k g p n (length before) spots new before visits states next c.loop-n.invariant.states grows all c.loop-n.levels.items c.push-in-loop-n.new.self.items l c.loop-n.invariant.done c.in_ok-bit.ensures.visits c.new-in-loop-n.ensures c.in_ok-push-2.ensures.items;
      states = states_turn w k g p n (length before) spots new before visits states next c.loop-n.invariant.states grows all same;
      fresh = fresh_turn w k g spots new before visits states next c.loop-n.invariant.fresh all same;
    }

pub returns-then-len-eq0 : goal.returns-then-len-eq0
returns-then-len-eq0 c =
    let w = world_in c.args.prepared.now c.args.version in
    let k = c.args.cube.now in
    let g = c.least-first.result in
    let p = c.args.place in
    let n = c.loop-n._n in
    let spots = c.loop-n.spots.keys in
    let new = c.visit_new.new.spots.keys in
    let before = c.loop-n.visits.items in
    let visits = c.visit_new.new.visits.items in
    let states = c.loop-n.states.items in
    let next = c.in_ok-states.states.items in
    let grows = c.in_ok-bit.ensures.spots in
    let all = subst (OfSweep w k g before spots new visits) c.in-All.is c.in_ok-bit.ensures.sweep in
    let l : Level = record { states = c.new-in-loop-n.result } in
    let levels = c.push-in-loop-n.new.self.items in
    let same : SameSet next (flat_map next_numbers (items_at visits states)) =
    subst (λ ns. SameSet next (flat_map next_numbers (items_at visits ns))) c.deref-in-loop-n.ensures.value
    (subst (λ vs. SameSet next (flat_map next_numbers (items_at vs c.deref-in-loop-n.result.now))) c.deref.ensures.value c.in_ok-states.ensures) in
    let fits : IsHeader g = record { dst = omega arith; src = omega arith; proto = omega arith; dport = omega arith; sport = omega arith; flags = omega arith } in
    let base : IsBase k g = record { fits = fits; inside = c.least-first.ensures.member } in
    graph_at_end w k g p (n + 1) new visits levels next base all.right
    (done_turn w k g p n (length before) spots new before visits states next c.loop-n.invariant.states grows all c.loop-n.levels.items levels l c.loop-n.invariant.done c.in_ok-bit.ensures.visits c.new-in-loop-n.ensures c.in_ok-push-2.ensures.items)
    (states_turn w k g p n (length before) spots new before visits states next c.loop-n.invariant.states grows all same)
    (empty_if next (omega (arith, c.in_ok-states.states.ok.0, c.len.ensures, c.if-len-eq0.true)))

pub returns-in-Divides : goal.returns-in-Divides
returns-in-Divides c =
    let w = world_in c.args.prepared.now c.args.version in
    let k = c.args.cube.now in
    let g = c.least-first.result in
    let p = c.args.place in
    let n = c.loop-n._n in
    let spots = c.loop-n.spots.keys in
    let new = c.visit_new.new.spots.keys in
    let before = c.loop-n.visits.items in
    let visits = c.visit_new.new.visits.items in
    let one = subst (OfSweep w k g before spots new visits) c.in-Divides.is c.in_ok-bit.ensures.sweep in
    (one.0, divides_on_the_way w k g p n spots before c.loop-n.states.items (omega (arith, c.loop-n-test.true)) c.loop-n.invariant.states c.loop-n.invariant.fresh one.1)
