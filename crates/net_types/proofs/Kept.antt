-- No rule changes the protocol or the flags of a header.
use Rattle.std.proofs.Common.{◌≡◌, inl, inr, ◌⊎◌, ℕ, zero, suc, ◌+◌, ◌==◌, Bool, true, false, cond, ◌&&◌, List, [], ◌∷◌, Option, Some, None, refl, subst, ◌∙◌}
use Rattle.std.specs.Prelude.{Contains, find}
use Rattle.hdr_bits.specs.declared.header.Header.{Header}
use Rattle.net_types.specs.declared.config.NatRule.{NatRule}
use Rattle.net_types.specs.declared.network.Hop.{Hop}
use Rattle.net_types.specs.declared.network.Hop.TheVariants.{Discard, Out}
use Rattle.net_types.specs.declared.network.Move.{Move}
use Rattle.net_types.specs.declared.network.Move.TheVariants.{Drop, Local, Lost, Exit, Go}
use Rattle.net_types.specs.declared.network.Place.{Place}
use Rattle.net_types.specs.declared.network.Segment.{Segment}
use Rattle.net_types.specs.declared.network.State.{State}
use Rattle.net_types.specs.Translation.{with_dst, with_src, with_outer_dst, with_outer_src, from_outside, from_inside, port_fits_dst, plain_fits_dst, port_fits_src, plain_fits_src, outer_fits_dst, outer_fits_src}
use Rattle.net_types.specs.Routes.{hops, rib_of}
use Rattle.net_types.specs.World.{World, Seat, seat_at, seat_named, segment_of, is_other, answers, is_silent}
use Rattle.net_types.specs.Moves.{moves_at, moves_in, local_or_forward, owner, is_dropped, is_inside, is_outside, lets_in, passes_list, coming_in, going_out, move_by, leave_if_any, send, send_p2p, send_lan}
use Rattle.net_types.specs.Walks.{IsWalk, End, dropped, expired, local, exit, end_of, IsEnd}
use Rattle.net_types.proofs.Members.{in_one, in_map}

-- protocol and flags are as they were
pub record Keeps (g h : Header) : Type 0 where
  pub proto : h.proto ≡ g.proto
  pub flags : h.flags ≡ g.flags

kept : (h : Header) → Keeps h h
kept h = record { proto = refl; flags = refl }

kept_then : (f g h : Header) → Keeps f g → Keeps g h → Keeps f h
kept_then f g h j k = record { proto = k.proto ∙ j.proto; flags = k.flags ∙ j.flags }

-- the header that a move sends on keeps them
abbrev KeptBy : Header → Move → Type 0
KeptBy g Drop = Unit {0}
KeptBy g (Local p) = Unit {0}
KeptBy g Lost = Unit {0}
KeptBy g (Exit p h) = Keeps g h
KeptBy g (Go p h) = Keeps g h

by_dst : (h : Header) (o q : Option NatRule) → Keeps h (with_dst h o q)
by_dst h (Some r) q = record { proto = refl; flags = refl }
by_dst h None (Some r) = record { proto = refl; flags = refl }
by_dst h None None = kept h

by_src : (h : Header) (o q : Option NatRule) → Keeps h (with_src h o q)
by_src h (Some r) q = record { proto = refl; flags = refl }
by_src h None (Some r) = record { proto = refl; flags = refl }
by_src h None None = kept h

by_outer_src : (g h : Header) (o : Option NatRule) → Keeps g h → Keeps g (with_outer_src h o)
by_outer_src g h (Some r) k = record { proto = k.proto; flags = k.flags }
by_outer_src g h None k = k

by_outer_dst : (g h : Header) (o : Option NatRule) → Keeps g h → Keeps g (with_outer_dst h o)
by_outer_dst g h (Some r) k = record { proto = k.proto; flags = k.flags }
by_outer_dst g h None k = k

either_kept : (g : Header) (b : Bool) (h k : Header) → Keeps g h → Keeps g k → Keeps g (cond b h k)
either_kept g true h k e f = e
either_kept g false h k e f = f

in_kept : (seat : Seat) (h : Header) → Keeps h (coming_in seat h)
in_kept seat h =
    let rules = seat.device.config.nat in
    let to = by_dst h (find (port_fits_dst h) rules) (find (plain_fits_dst h) rules) in
    either_kept h (is_outside seat.interface.side) (from_outside rules h) h (by_outer_src h _ (find (outer_fits_src h) rules) to) (kept h)

out_kept : (seat out : Seat) (h : Header) → Keeps h (going_out seat out h)
out_kept seat out h =
    let rules = seat.device.config.nat in
    let from = by_src h (find (port_fits_src h) rules) (find (plain_fits_src h) rules) in
    by_side (is_inside seat.interface.side) (is_outside out.interface.side) (from_inside rules h) (by_outer_dst h _ (find (outer_fits_dst h) rules) from)
  where
    by_side : (a b : Bool) (k : Header) → Keeps h k → Keeps h (cond (a && b) k h)
    by_side true true k e = e
    by_side true false k e = kept h
    by_side false b k e = kept h

either_by : (g : Header) (b : Bool) (m n : Move) → KeptBy g m → KeptBy g n → KeptBy g (cond b m n)
either_by g true m n e f = e
either_by g false m n e f = f

by_p2p : (g : Header) (e : Place) (h : Header) (q : Option Place) → Keeps g h → KeptBy g (send_p2p e h q)
by_p2p g e h None k = k
by_p2p g e h (Some q) k = k

by_lan : (g : Header) (e : Place) (h : Header) (q s : Option Place) → Keeps g h → KeptBy g (send_lan e h q s)
by_lan g e h (Some q) s k = k
by_lan g e h None (Some s) k = tt
by_lan g e h None None k = k

module _ (w : World) where
  by_send : (g : Header) (e : Place) (a : ℕ) (h : Header) (s : Option Segment) → Keeps g h → KeptBy g (send w e a h s)
  by_send g e a h None k = k
  by_send g e a h (Some s) k =
      either_by g s.lan (send_lan e h (find (answers w a e) s.ends) (find (is_silent w a e) s.ends)) (send_p2p e h (find (is_other e) s.ends))
      (by_lan g e h (find (answers w a e) s.ends) (find (is_silent w a e) s.ends) k) (by_p2p g e h (find (is_other e) s.ends) k)

  by_leave : (seat : Seat) (h : Header) (a : ℕ) (out : Option Seat) → KeptBy h (leave_if_any w seat h a out)
  by_leave seat h a None = tt
  by_leave seat h a (Some out) =
      let g = going_out seat out h in
      either_by h (passes_list seat.device.config out.interface.output g) (send w out.place a g (segment_of w out.place)) Lost
      (by_send h out.place a g (segment_of w out.place) (out_kept seat out h)) tt

  by_hop : (seat : Seat) (h : Header) (hop : Hop) → KeptBy h (move_by w seat h hop)
  by_hop seat h Discard = tt
  by_hop seat h (Out name a) = by_leave seat h a (seat_named seat.device name)

  in_either : (b : Bool) (ms ns : List Move) (m : Move) → Contains (cond b ms ns) m → Contains ms m ⊎ Contains ns m
  in_either true ms ns m h = inl h
  in_either false ms ns m h = inr h

  by_drop : (h : Header) (m : Move) → Contains (Drop ∷ []) m → KeptBy h m
  by_drop h m c = subst (KeptBy h) (in_one Drop m c) tt

  by_forward : (seat : Seat) (h : Header) (own : Option Seat) (m : Move) → Contains (local_or_forward w seat h own) m → KeptBy h m
  by_forward seat h (Some own) m c = subst (KeptBy h) (in_one (Local own.place) m c) tt
  by_forward seat h None m c =
      let i = in_map (move_by w seat h) (hops (rib_of seat.device.config) h.dst) m c in
      subst (KeptBy h) i.2 (by_hop seat h i.0)

  kept_by_then : (f g : Header) → Keeps f g → (m : Move) → KeptBy g m → KeptBy f m
  kept_by_then f g k Drop e = tt
  kept_by_then f g k (Local p) e = tt
  kept_by_then f g k Lost e = tt
  kept_by_then f g k (Exit p h) e = kept_then f g h k e
  kept_by_then f g k (Go p h) e = kept_then f g h k e

  by_moves : (o : Option Seat) (h : Header) (m : Move) → Contains (moves_at w o h) m → KeptBy h m
  by_moves None h m c = by_drop h m c
  by_moves (Some seat) h m c =
      let g = coming_in seat h in
      elim (in_either (lets_in seat h) (moves_in w seat g) (Drop ∷ []) m c) [
        | inl d ↦ kept_by_then h g (in_kept seat h) m (elim (in_either (is_dropped seat.device.config g.dst) (Drop ∷ []) (local_or_forward w seat g (owner seat g.dst)) m d) [
          | inl e ↦ by_drop g m e
          | inr e ↦ by_forward seat g (owner seat g.dst) m e
        ])
        | inr d ↦ by_drop h m d
      ]

  pub kept_by_walk : (n : ℕ) (s u : State) → IsWalk w n s u → Keeps s.header u.header
  kept_by_walk zero s u e = subst (λ (v : State). Keeps s.header v.header) e (kept s.header)
  kept_by_walk (suc n) s u (v, h, g) = kept_then s.header v.header u.header (kept_by_walk n s v h) (by_moves (seat_at w v.place) v.header (Go u.place u.header) g)

-- the last header of an end keeps them
abbrev pub KeptAt : Header → End → Type 0
KeptAt g dropped = Unit {0}
KeptAt g expired = Unit {0}
KeptAt g (local p) = Unit {0}
KeptAt g (exit p h) = Keeps g h

by_some : {A : Type 0} (P : A → Type 0) (x y : A) → Some x ≡ Some y → P x → P y
by_some P x y e p = let f : x ≡ y = cc in subst P f p

at_end : (g : Header) (b : Bool) (m : Move) (e : End) → end_of b m ≡ Some e → KeptBy g m → KeptAt g e
at_end g true Drop e f k = by_some (KeptAt g) dropped e f tt
at_end g true (Local p) e f k = by_some (KeptAt g) (local p) e f tt
at_end g true Lost e f k = by_some (KeptAt g) expired e f tt
at_end g true (Exit p h) e f k = by_some (KeptAt g) expired e f tt
at_end g true (Go p h) e f k = by_some (KeptAt g) expired e f tt
at_end g false Drop e f k = by_some (KeptAt g) dropped e f tt
at_end g false (Local p) e f k = by_some (KeptAt g) (local p) e f tt
at_end g false Lost e f k = by_some (KeptAt g) dropped e f tt
at_end g false (Exit p h) e f k = by_some (KeptAt g) (exit p h) e f k
at_end g false (Go p h) e f k = cc

pub kept_at_end : (w : World) (t : ℕ) (s : State) (e : End) → IsEnd w t s e → KeptAt s.header e
kept_at_end w t s e i =
    at_end s.header (i.count + 1 == t) i.move e i.ends
    (kept_by_then w s.header i.state.header (kept_by_walk w i.count s i.state i.walk) i.move (by_moves w (seat_at w i.state.place) i.state.header i.move i.made))
