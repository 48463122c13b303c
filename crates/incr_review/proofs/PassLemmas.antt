-- Where no device has a translation rule a header goes on as it comes.
use Rattle.std.proofs.Common.{ℕ, ◌≡◌, ◌&&◌, if◌then◌else◌, Bool, true, false, [], ◌∷◌, Option, Some, None, find, refl, ap, sym, ◌∙◌}
use Rattle.std.specs.Prelude.{Contains, ◌==◌}
use Rattle.hdr_bits.specs.declared.header.Header.{Header}
use Rattle.net_types.specs.declared.network.Hop.{Hop}
use Rattle.net_types.specs.declared.network.Hop.TheVariants.{Discard, Out}
use Rattle.net_types.specs.declared.network.Move.TheVariants as move
use Rattle.net_types.specs.declared.network.Place.{Place}
use Rattle.net_types.specs.declared.network.Segment.{Segment}
use Rattle.net_types.specs.World.{World, Seat, seat_at, seat_named, segment_of, is_other, answers, is_silent}
use Rattle.net_types.specs.Routes.{hops, rib_of}
use Rattle.net_types.specs.Translation.{from_inside, from_outside}
use Rattle.net_types.specs.Moves.{moves_at, moves_in, local_or_forward, move_by, leave, leave_if_any, send, send_lan, send_p2p, passes_list, going_out, coming_in, lets_in, is_dropped, is_inside, is_outside, owner}
use Rattle.net_types.proofs.Members.{in_map, in_one}
use Rattle.live_network.proofs.ReplaceLemmas.{found_in}
use Rattle.place_ways.proofs.PlaceLemmas.{device_of}
use Rattle.incr_review.specs.Live.{HaveNoRules, PassesOn}

lan_goes : (e : Place) (h : Header) (x y : Option Place) (q : Place) (g : Header) → send_lan e h x y ≡ move.Go q g → g ≡ h
lan_goes e h (Some r) y q g t = cc
lan_goes e h None (Some r) q g t = absurd cc
lan_goes e h None None q g t = absurd cc

p2p_goes : (e : Place) (h : Header) (x : Option Place) (q : Place) (g : Header) → send_p2p e h x ≡ move.Go q g → g ≡ h
p2p_goes e h (Some r) q g t = cc
p2p_goes e h None q g t = absurd cc

module _ (w : World) where
  send_goes : (e : Place) (a : ℕ) (h : Header) (s : Option Segment) (q : Place) (g : Header) → send w e a h s ≡ move.Go q g → g ≡ h
  send_goes e a h None q g t = absurd cc
  send_goes e a h (Some s) q g t = by s.lan t
    where
      by : (b : Bool) → (if b then send_lan e h (find (answers w a e) s.ends) (find (is_silent w a e) s.ends) else send_p2p e h (find (is_other e) s.ends)) ≡ move.Go q g → g ≡ h
      by true t = lan_goes e h (find (answers w a e) s.ends) (find (is_silent w a e) s.ends) q g t
      by false t = p2p_goes e h (find (is_other e) s.ends) q g t

  module _ (seat : Seat) (none : seat.device.config.nat ≡ []) where
    coming_same : (h : Header) → coming_in seat h ≡ h
    coming_same h = by (is_outside seat.interface.side)
      where
        by : (b : Bool) → (if b then from_outside seat.device.config.nat h else h) ≡ h
        by true = ap (λ rs. from_outside rs h) none
        by false = refl

    going_same : (out : Seat) (h : Header) → going_out seat out h ≡ h
    going_same out h = by (is_inside seat.interface.side && is_outside out.interface.side)
      where
        by : (b : Bool) → (if b then from_inside seat.device.config.nat h else h) ≡ h
        by true = ap (λ rs. from_inside rs h) none
        by false = refl

    leave_goes : (out : Seat) (h : Header) (a : ℕ) (q : Place) (g : Header) → leave w seat h a out ≡ move.Go q g → g ≡ h
    leave_goes out h a q g t = by (passes_list seat.device.config out.interface.output (going_out seat out h)) t ∙ going_same out h
      where
        by : (b : Bool) → (if b then send w out.place a (going_out seat out h) (segment_of w out.place) else move.Lost) ≡ move.Go q g → g ≡ going_out seat out h
        by true t = send_goes out.place a (going_out seat out h) (segment_of w out.place) q g t
        by false t = absurd cc

    any_goes : (h : Header) (a : ℕ) (o : Option Seat) (q : Place) (g : Header) → leave_if_any w seat h a o ≡ move.Go q g → g ≡ h
    any_goes h a None q g t = absurd cc
    any_goes h a (Some out) q g t = leave_goes out h a q g t

    hop_goes : (h : Header) (x : Hop) (q : Place) (g : Header) → move_by w seat h x ≡ move.Go q g → g ≡ h
    hop_goes h Discard q g t = absurd cc
    hop_goes h (Out name a) q g t = any_goes h a (seat_named seat.device name) q g t

    forward_goes : (h : Header) (o : Option Seat) (q : Place) (g : Header) → Contains (local_or_forward w seat h o) (move.Go q g) → g ≡ h
    forward_goes h (Some own) q g c = (let t = in_one (move.Local own.place) (move.Go q g) c in absurd cc)
    forward_goes h None q g c = (let m = in_map (move_by w seat h) (hops (rib_of seat.device.config) h.dst) (move.Go q g) c in hop_goes h m.0 q g m.2)

    in_goes : (h : Header) (q : Place) (g : Header) → Contains (moves_in w seat h) (move.Go q g) → g ≡ h
    in_goes h q g c = by (is_dropped seat.device.config h.dst) c
      where
        by : (b : Bool) → Contains (if b then move.Drop ∷ [] else local_or_forward w seat h (owner seat h.dst)) (move.Go q g) → g ≡ h
        by true c = (let t = in_one move.Drop (move.Go q g) c in absurd cc)
        by false c = forward_goes h (owner seat h.dst) q g c

    at_goes : (h : Header) (q : Place) (g : Header) → Contains (moves_at w (Some seat) h) (move.Go q g) → g ≡ h
    at_goes h q g c = by (lets_in seat h) c
      where
        by : (b : Bool) → Contains (if b then moves_in w seat (coming_in seat h) else move.Drop ∷ []) (move.Go q g) → g ≡ h
        by true c = in_goes (coming_in seat h) q g c ∙ coming_same h
        by false c = (let t = in_one move.Drop (move.Go q g) c in absurd cc)

pub passes_on : (w : World) → HaveNoRules w.network.devices → PassesOn w
passes_on w none p q h g c = by (seat_at w p) refl c
  where
    by : (o : Option Seat) → seat_at w p ≡ o → Contains (moves_at w o h) (move.Go q g) → g ≡ h
    by None e c = (let t = in_one move.Drop (move.Go q g) c in absurd cc)
    by (Some seat) e c = (let d = found_in (λ d. d.name == p.device) w.network.devices seat.device (sym (device_of w p seat (sym e))) in at_goes w seat (none seat.device d.0) h q g c)
