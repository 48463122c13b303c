-- The ends of a trace are the ends of the walks.
use Rattle.std.proofs.Common.{◌≡◌, ℕ, zero, suc, ◌+◌, ◌≤◌, List, map, sym, ◌∙◌, arith, ◌==◌}
use Rattle.std.specs.Prelude.{flat_map}
use Rattle.hdr_bits.specs.declared.header.Header.{Header}
use Rattle.net_types.specs.declared.label.Outcome.{Outcome}
use Rattle.net_types.specs.declared.network.Place.{Place}
use Rattle.net_types.specs.declared.network.State.{State}
use Rattle.net_types.specs.World.{World}
use Rattle.net_types.specs.Moves.{moves}
use Rattle.net_types.specs.Walks.{states_after, ends_at, ends_after, ends_below, ends, end_of, outcome_of, state_at, label}
use Rattle.net_types.specs.Order.{in_order, outcome_cmp}
use Rattle.net_types.proofs.Ordered.{is_in_order, in_order_sorted, Contains_from_has, has_from_Contains, in_order_has}
use Rattle.net_types.proofs.Outcomes.{total, exact}
use Rattle.transfer_rel.specs.CubeMoves.{SameSet}
use Rattle.region_walk.specs.Traces.{Step, state_of_step, IsTrace, step_ends, trace_ends_below}
use Rattle.region_walk.proofs.SetLemmas.{same_refl, same_sym, same_trans, same_append, same_map, same_flat_map, same_filter_map}

-- lists with the same outcomes have one order
in_order_same_set : (xs : List Outcome) → SameSet (in_order outcome_cmp xs) xs
in_order_same_set xs q = (
  λ h. Contains_from_has outcome_cmp total exact q xs (sym (in_order_has outcome_cmp total exact q xs) ∙ has_from_Contains outcome_cmp total exact q (in_order outcome_cmp xs) h),
  λ h. Contains_from_has outcome_cmp total exact q (in_order outcome_cmp xs) (in_order_has outcome_cmp total exact q xs ∙ has_from_Contains outcome_cmp total exact q xs h),
)

pub same_order_of : (xs ys : List Outcome) → SameSet xs ys → in_order outcome_cmp xs ≡ in_order outcome_cmp ys
same_order_of xs ys h =
    is_in_order outcome_cmp total exact ys (in_order outcome_cmp xs) (in_order_sorted outcome_cmp total exact xs) (same_trans (in_order outcome_cmp xs) xs ys (in_order_same_set xs) h)

pub trace_ends : (w : World) (s : State) (limit : ℕ) (trace : ℕ → List Step) → IsTrace w s limit trace → (t n : ℕ) → n ≤ limit → SameSet (ends_below w t s n) (trace_ends_below t trace n)
trace_ends w s limit trace r t zero l = same_refl (ends_below w t s 0)
trace_ends w s limit trace r t (suc n) l =
    same_append (ends_below w t s n) (ends_after w t s n) (trace_ends_below t trace n) (flat_map (step_ends (n + 1 == t)) (trace n))
    (trace_ends w s limit trace r t n (omega (arith, l)))
    (same_flat_map (ends_at w (n + 1 == t)) (step_ends (n + 1 == t)) state_of_step (states_after w n s) (trace n) (r.states n (omega (arith, l)))
    (λ x c. same_filter_map (end_of (n + 1 == t)) (moves w x.state.place x.state.header) x.moves (r.moves n (omega (arith, l)) x c)))

pub label_from_trace : (w : World) (p : Place) (h : Header) (limit : ℕ) (trace : ℕ → List Step) → IsTrace w (state_at p h) limit trace → (t : ℕ) → t ≤ limit → (outs : List Outcome) → SameSet outs (map (outcome_of h) (trace_ends_below t trace t)) → in_order outcome_cmp outs ≡ label w t p h
unfolding label
label_from_trace w p h limit trace r t l outs g =
    let told = map (outcome_of h) (trace_ends_below t trace t) in
    let all = map (outcome_of h) (ends w t (state_at p h)) in
    same_order_of outs all (same_trans outs told all g (same_map (outcome_of h) (trace_ends_below t trace t) (ends w t (state_at p h)) (same_sym (ends w t (state_at p h)) (trace_ends_below t trace t) (trace_ends w (state_at p h) limit trace r t t l))))
