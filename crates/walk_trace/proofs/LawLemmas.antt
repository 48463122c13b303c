-- The numbered states are where walks lead.
use Rattle.std.proofs.Common.{◌≡◌, ◌↔◌, inl, inr, ℕ, zero, suc, ◌<◌, subst, arith}
use Rattle.std.specs.Prelude.{Contains}
use Rattle.std.proofs.lemmas.Bool.{cases_lt}
use Rattle.std.proofs.lemmas.List.Elements.{Contains-append_cases, Contains-append_left, Contains-append_right}
use Rattle.net_types.specs.declared.network.State.{State}
use Rattle.net_types.specs.World.{World}
use Rattle.net_types.proofs.Members.{in_none}
use Rattle.net_types.proofs.Walking.{walk_from_states, states_from_walk}
use Rattle.walk_trace.specs.Numbered.{reached, reached_below, numbered}
use Rattle.walk_trace.specs.Outcomes.{HasWalkBelow}
use Rattle.walk_trace.proofs.Breadth.{reached_of, number_for}
use Rattle.walk_trace.proofs.OutcomeLemmas.{reached_same}

module _ (w : World) (s u : State) where
  walk_of : (n : ℕ) → Contains (reached_below w s n) u → HasWalkBelow w n s u
  walk_of zero c = absurd (in_none u c)
  walk_of (suc n) c = elim (Contains-append_cases (reached_below w s n) (reached w n s) u c) [
    | inl d ↦ let h = walk_of n d in record { count = h.count; within = omega (arith, h.within); walk = h.walk }
    | inr d ↦ record { count = n; within = omega arith; walk = walk_from_states w n s u ((reached_same w n s u).0 d) }
  ]

  reached_by : (n k : ℕ) → k < n → Contains (reached w k s) u → Contains (reached_below w s n) u
  reached_by zero k l c = absurd (omega (arith, l))
  reached_by (suc n) k l c = elim (cases_lt k n) [
    | inl g ↦ Contains-append_left (reached_below w s n) (reached w n s) u (reached_by n k g c)
    | inr g ↦ Contains-append_right (reached_below w s n) (reached w n s) u (let m : k ≡ n = omega (arith, l, g) in subst (λ (i : ℕ). Contains (reached w i s) u) m c)
  ]

  pub numbered_are_reached : (t : ℕ) → Contains (numbered w t s) u ↔ HasWalkBelow w t s u
  numbered_are_reached t = (
    λ c. walk_of t (reached_of w s t u c),
    λ h. number_for w s t u (reached_by t h.count h.within ((reached_same w h.count s u).1 (states_from_walk w h.count s u h.walk))),
  )
