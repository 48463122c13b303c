-- Without segments each walk ends at its first device.
use Rattle.std.proofs.Common.{◌≡◌, ℕ, zero, suc, ◌+◌, ◌≤◌, Bool, true, false, cond, List, [], ◌∷◌, ◌++◌, Option, Some, None, map, refl, sym, ap, ◌∙◌, arith, ◌==◌}
use Rattle.std.specs.Prelude.{filter_map, flat_map}
use Rattle.std.specs.List.{cons_option}
use Rattle.std.proofs.lemmas.List.{append-nil}
use Rattle.std.proofs.lemmas.Bool.Decides.{nat_tests}
use Rattle.hdr_bits.specs.declared.header.Header.{Header}
use Rattle.net_types.specs.declared.network.Hop.{Hop}
use Rattle.net_types.specs.declared.network.Hop.TheVariants.{Discard, Out}
use Rattle.net_types.specs.declared.network.Move.{Move}
use Rattle.net_types.specs.declared.network.Move.TheVariants.{Drop, Lost}
use Rattle.net_types.specs.declared.network.Place.{Place}
use Rattle.net_types.specs.World.{World, Seat, segment_of, seat_named, seat_at}
use Rattle.net_types.specs.Moves.{moves, moves_at, moves_in, local_or_forward, owner, is_dropped, move_by, leave_if_any, send, passes_list, going_out, coming_in, lets_in}
use Rattle.net_types.specs.Routes.{hops, rib_of}
use Rattle.net_types.specs.declared.network.State.{State}
use Rattle.net_types.specs.Walks.{next_state, next_states, states_after, ends_at, ends_after, ends_below, ends, end_by, last_end_by, end_of, outcome_of, state_at, label}
use Rattle.net_types.specs.Order.{in_order, outcome_cmp}

module _ (w : World) (alone : w.links.segments ≡ []) where
  no_segment : (p : Place) → segment_of w p ≡ None
  no_segment p = rw alone

  sent_out : (e : Place) (a : ℕ) (h : Header) → next_state (send w e a h (segment_of w e)) ≡ None
  sent_out e a h = ap (λ s. next_state (send w e a h s)) (no_segment e)

  stays_or_lost : (b : Bool) (m : Move) → next_state m ≡ None → next_state (cond b m Lost) ≡ None
  stays_or_lost true m e = e
  stays_or_lost false m e = refl

  leaves : (seat : Seat) (h : Header) (a : ℕ) (out : Option Seat) → next_state (leave_if_any w seat h a out) ≡ None
  leaves seat h a None = refl
  leaves seat h a (Some out) =
      let g : Header = going_out seat out h in
      stays_or_lost (passes_list seat.device.config out.interface.output g) (send w out.place a g (segment_of w out.place)) (sent_out out.place a g)

  stays : (seat : Seat) (h : Header) (hop : Hop) → next_state (move_by w seat h hop) ≡ None
  stays seat h Discard = refl
  stays seat h (Out name a) = leaves seat h a (seat_named seat.device name)

  none_by : (seat : Seat) (h : Header) (hs : List Hop) → filter_map next_state (map (move_by w seat h) hs) ≡ []
  none_by seat h [] = refl
  none_by seat h (hop ∷ hs) = ap (λ o. cons_option o (filter_map next_state (map (move_by w seat h) hs))) (stays seat h hop) ∙ none_by seat h hs

  either : (b : Bool) (ms ns : List Move) → filter_map next_state ms ≡ [] → filter_map next_state ns ≡ [] → filter_map next_state (cond b ms ns) ≡ []
  either true ms ns e f = e
  either false ms ns e f = f

  forwarded : (seat : Seat) (h : Header) (own : Option Seat) → filter_map next_state (local_or_forward w seat h own) ≡ []
  forwarded seat h None = none_by seat h (hops (rib_of seat.device.config) h.dst)
  forwarded seat h (Some own) = refl

  taken_in : (seat : Seat) (h : Header) → filter_map next_state (moves_in w seat h) ≡ []
  taken_in seat h = either (is_dropped seat.device.config h.dst) (Drop ∷ []) (local_or_forward w seat h (owner seat h.dst)) refl (forwarded seat h (owner seat h.dst))

  none_at : (o : Option Seat) (h : Header) → filter_map next_state (moves_at w o h) ≡ []
  none_at None h = refl
  none_at (Some seat) h = either (lets_in seat h) (moves_in w seat (coming_in seat h)) (Drop ∷ []) (taken_in seat (coming_in seat h)) refl

  -- no move leads on
  pub nowhere : (p : Place) (h : Header) → filter_map next_state (moves w p h) ≡ []
  nowhere p h = none_at (seat_at w p) h

  -- no walk has a move
  pub no_states : (n : ℕ) (s : State) → states_after w (suc n) s ≡ []
  no_states zero s = append-nil (filter_map next_state (moves w s.place s.header)) ∙ nowhere s.place s.header
  no_states (suc n) s = ap (flat_map (next_states w)) (no_states n s)

  none_after : (t k : ℕ) (s : State) → ends_after w t s (suc k) ≡ []
  none_after t k s = ap (flat_map (ends_at w (suc k + 1 == t))) (no_states k s)

  -- later walks add nothing
  only_first : (t n : ℕ) (s : State) → ends_below w t s (suc n) ≡ ends_after w t s 0
  only_first t zero s = refl
  only_first t (suc n) s = ap (λ xs. ends_below w t s (suc n) ++ xs) (none_after t n s) ∙ append-nil (ends_below w t s (suc n)) ∙ only_first t n s

  not_last : (t : ℕ) → (0 + 1 == suc (suc t)) ≡ false
  not_last t = grind (arith, nat_tests)

  -- the ends of a packet whose TTL is above 1 are those of its first moves
  pub ends_single : (t : ℕ) (s : State) → ends w (suc (suc t)) s ≡ filter_map end_by (moves w s.place s.header)
  ends_single t s =
      only_first (suc (suc t)) (suc t) s ∙ append-nil (ends_at w (0 + 1 == suc (suc t)) s) ∙ ap (λ b. ends_at w b s) (not_last t)

-- in every world, a packet whose TTL is 1 ends by its first moves
pub ends_last : (w : World) (s : State) → ends w 1 s ≡ filter_map last_end_by (moves w s.place s.header)
ends_last w s = append-nil (ends_at w true s)

-- the ends of a packet at a lone device
pub ends_alone : (w : World) → w.links.segments ≡ [] → (t : ℕ) (s : State) → 1 ≤ t → ends w t s ≡ filter_map (end_of (t == 1)) (moves w s.place s.header)
ends_alone w alone zero s h = absurd (omega arith)
ends_alone w alone (suc zero) s h = ends_last w s
ends_alone w alone (suc (suc t)) s h =
    let above : (suc (suc t) == 1) ≡ false = grind (arith, nat_tests) in
    ends_single w alone t s ∙ ap (λ b. filter_map (end_of b) (moves w s.place s.header)) (sym above)

pub label_alone : (w : World) → w.links.segments ≡ [] → (t : ℕ) (p : Place) (h : Header) → 1 ≤ t → label w t p h ≡ in_order outcome_cmp (map (outcome_of h) (filter_map (end_of (t == 1)) (moves w p h)))
unfolding label
label_alone w alone t p h l = ap (λ es. in_order outcome_cmp (map (outcome_of h) es)) (ends_alone w alone t (state_at p h) l)
