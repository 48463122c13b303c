-- A header that doesn't visit the device in which two networks differ walks alike in both.
use Rattle.std.proofs.Common.{ℕ, zero, suc, ◌≡◌, ◌<◌, ◌&&◌, if◌then◌else◌, [], ◌∷◌, Option, Some, None, map, find, refl, ap, sym, ◌∙◌, subst, arith}
use Rattle.std.specs.Prelude.{Contains}
use Rattle.std.specs.List.{list_any}
use Rattle.hdr_bits.specs.declared.header.Header.{Header}
use Rattle.net_types.specs.declared.network.Hop.{Hop}
use Rattle.net_types.specs.declared.network.Hop.TheVariants.{Discard, Out}
use Rattle.net_types.specs.declared.network.Move.TheVariants as move
use Rattle.net_types.specs.declared.network.Place.{Place}
use Rattle.net_types.specs.declared.network.Segment.{Segment}
use Rattle.net_types.specs.declared.network.State.{State}
use Rattle.net_types.specs.World.{World, Seat, seat_at, seat_named, segment_of, same_place, is_other, answers, is_silent}
use Rattle.net_types.specs.Routes.{hops, rib_of}
use Rattle.net_types.specs.Moves.{moves, moves_at, moves_in, local_or_forward, move_by, leave_if_any, leave_with, send, send_lan, send_p2p, passes_list, going_out, coming_in, lets_in, is_dropped, owner}
use Rattle.net_types.specs.Walks.{IsWalk, state_at}
use Rattle.net_types.proofs.Walking.{walk_from_states, states_from_walk}
use Rattle.net_types.specs.Visits.{Visits}
use Rattle.net_types.specs.SameWalks.{SameWalksUnder}
use Rattle.net_types.specs.Edits.{DiffersOnlyAt}

module _ (old new : World) (d : ℕ) (a : DiffersOnlyAt old new d) where
  -- ---- the moves at other devices
  live_same : (x : ℕ) (e q : Place) → answers old x e q ≡ answers new x e q
  live_same x e q = ap (λ b. is_other e q && b) (a.live x q)

  silent_same : (x : ℕ) (e q : Place) → is_silent old x e q ≡ is_silent new x e q
  silent_same x e q = ap (λ b. is_other e q && b) (a.silent x q)

  send_same : (e : Place) (x : ℕ) (h : Header) (s : Option Segment) → send old e x h s ≡ send new e x h s
  send_same e x h None = refl
  send_same e x h (Some s) =
      λ i. if s.lan then send_lan e h (find (λ q. live_same x e q i) s.ends) (find (λ q. silent_same x e q i) s.ends) else send_p2p e h (find (is_other e) s.ends)

  segment_same : (e : Place) → segment_of old e ≡ segment_of new e
  segment_same e = ap (find (λ s. list_any (same_place e) s.ends)) a.segments

  leave_same : (seat : Seat) (h : Header) (x : ℕ) (out : Seat) → leave_with old seat h x out ≡ leave_with new seat h x out
  leave_same seat h x out =
      ap (λ m. if passes_list seat.device.config out.interface.output h then m else move.Lost) (send_same out.place x h (segment_of old out.place) ∙ ap (send new out.place x h) (segment_same out.place))

  any_same : (seat : Seat) (h : Header) (x : ℕ) (o : Option Seat) → leave_if_any old seat h x o ≡ leave_if_any new seat h x o
  any_same seat h x None = refl
  any_same seat h x (Some out) = leave_same seat (going_out seat out h) x out

  hop_same : (seat : Seat) (h : Header) (hop : Hop) → move_by old seat h hop ≡ move_by new seat h hop
  hop_same seat h Discard = refl
  hop_same seat h (Out name x) = any_same seat h x (seat_named seat.device name)

  forward_same : (seat : Seat) (h : Header) (o : Option Seat) → local_or_forward old seat h o ≡ local_or_forward new seat h o
  forward_same seat h (Some own) = refl
  forward_same seat h None = λ i. map (λ hop. hop_same seat h hop i) (hops (rib_of seat.device.config) h.dst)

  in_same : (seat : Seat) (h : Header) → moves_in old seat h ≡ moves_in new seat h
  in_same seat h = ap (λ ms. if is_dropped seat.device.config h.dst then move.Drop ∷ [] else ms) (forward_same seat h (owner seat h.dst))

  at_same : (o : Option Seat) (h : Header) → moves_at old o h ≡ moves_at new o h
  at_same None h = refl
  at_same (Some seat) h = ap (λ ms. if lets_in seat h then ms else move.Drop ∷ []) (in_same seat (coming_in seat h))

  pub moves_same : (p : Place) (h : Header) → (p.device ≡ d → ⊥) → moves old p h ≡ moves new p h
  moves_same p h n = at_same (seat_at old p) h ∙ ap (λ o. moves_at new o h) (a.others p n)

  -- ---- walks that don't come to the device
  module _ (t : ℕ) (p : Place) (h : Header) (n : Visits old t p h d → ⊥) where
    made_same : (k : ℕ) (u : State) → k < t → IsWalk old k (state_at p h) u → moves old u.place u.header ≡ moves new u.place u.header
    made_same k u l w = moves_same u.place u.header (λ e. n (record { count = k; within = l; state = u; walk = w; there = e }))

    to_new : (k : ℕ) (u : State) → k < t → IsWalk old k (state_at p h) u → IsWalk new k (state_at p h) u
    to_new zero u l w = w
    to_new (suc k) u l w =
        let b : k < t = omega (arith, l) in
        (w.0, to_new k w.0 b w.1, subst (λ ms. Contains ms (move.Go u.place u.header)) (made_same k w.0 b w.1) w.2)

    to_old : (k : ℕ) (u : State) → k < t → IsWalk new k (state_at p h) u → IsWalk old k (state_at p h) u
    to_old zero u l w = w
    to_old (suc k) u l w =
        let b : k < t = omega (arith, l) in
        let c = to_old k w.0 b w.1 in
        (w.0, c, subst (λ ms. Contains ms (move.Go u.place u.header)) (sym (made_same k w.0 b c)) w.2)

    pub unvisited_walks : SameWalksUnder old new t p h
    unvisited_walks =
        let s = state_at p h in
        record {
          states = λ k l u. (
            λ m. states_from_walk new k s u (to_new k u l (walk_from_states old k s u m)),
            λ m. states_from_walk old k s u (to_old k u l (walk_from_states new k s u m)),
          );
          moves = λ k l u c m.
              let e = made_same k u l (walk_from_states old k s u c) in
              (subst (λ ms. Contains ms m) e, subst (λ ms. Contains ms m) (sym e));
        }
