-- What goes on from a place was translated there, if at all, on its way in and on its way out.
use Rattle.std.proofs.Common.{ℕ, ◌≡◌, Bool, true, false, cond, List, [], ◌∷◌, Option, Some, None, subst}
use Rattle.std.specs.Prelude.{Contains, find}
use Rattle.hdr_bits.specs.declared.header.Header.{Header}
use Rattle.net_types.specs.declared.network.Hop.{Hop}
use Rattle.net_types.specs.declared.network.Hop.TheVariants as hop
use Rattle.net_types.specs.declared.network.Move.{Move}
use Rattle.net_types.specs.declared.network.Move.TheVariants as move
use Rattle.net_types.specs.declared.network.Place.{Place}
use Rattle.net_types.specs.declared.network.Segment.{Segment}
use Rattle.net_types.specs.Moves.{passes_list, lets_in, coming_in, is_dropped, owner, send, send_lan, send_p2p, going_out, leave_if_any, move_by, local_or_forward, moves_in, moves_at}
use Rattle.net_types.specs.Routes.{hops, rib_of}
use Rattle.net_types.specs.World.{World, Seat, answers, is_other, is_silent, seat_named, segment_of}
use Rattle.net_types.proofs.Members.{in_map, in_one}

p2p_goes : (e : Place) (y : Header) (o : Option Place) (q : Place) (g : Header) → send_p2p e y o ≡ move.Go q g → y ≡ g
p2p_goes e y None q g t = absurd cc
p2p_goes e y (Some r) q g t = cc

lan_goes : (e : Place) (y : Header) (o s : Option Place) (q : Place) (g : Header) → send_lan e y o s ≡ move.Go q g → y ≡ g
lan_goes e y (Some r) s q g t = cc
lan_goes e y None (Some r) q g t = absurd cc
lan_goes e y None None q g t = absurd cc

by_kind : (b : Bool) (x z : Move) (y : Header) (q : Place) (g : Header) → (x ≡ move.Go q g → y ≡ g) → (z ≡ move.Go q g → y ≡ g) → cond b x z ≡ move.Go q g → y ≡ g
by_kind true x z y q g f k t = f t
by_kind false x z y q g f k t = k t

sent_goes : (w : World) (e : Place) (a : ℕ) (y : Header) (o : Option Segment) (q : Place) (g : Header) → send w e a y o ≡ move.Go q g → y ≡ g
sent_goes w e a y None q g t = absurd cc
sent_goes w e a y (Some s) q g t =
    by_kind s.lan (send_lan e y (find (answers w a e) s.ends) (find (is_silent w a e) s.ends)) (send_p2p e y (find (is_other e) s.ends)) y q g (lan_goes e y (find (answers w a e) s.ends) (find (is_silent w a e) s.ends) q g) (p2p_goes e y (find (is_other e) s.ends) q g) t

passed_goes : (w : World) (b : Bool) (e : Place) (a : ℕ) (y : Header) (q : Place) (g : Header) → cond b (send w e a y (segment_of w e)) move.Lost ≡ move.Go q g → y ≡ g
passed_goes w true e a y q g t = sent_goes w e a y (segment_of w e) q g t
passed_goes w false e a y q g t = absurd cc

module _ (w : World) (seat : Seat) (P : Header → Type 0) where
  named_goes : (y : Header) (a : ℕ) (o : Option Seat) (q : Place) (g : Header) → ((out : Seat) → P (going_out seat out y)) → leave_if_any w seat y a o ≡ move.Go q g → P g
  named_goes y a None q g p t = absurd cc
  named_goes y a (Some out) q g p t =
      subst P (passed_goes w (passes_list seat.device.config out.interface.output (going_out seat out y)) out.place a (going_out seat out y) q g t) (p out)

  hop_goes : (y : Header) (x : Hop) (q : Place) (g : Header) → ((out : Seat) → P (going_out seat out y)) → move_by w seat y x ≡ move.Go q g → P g
  hop_goes y hop.Discard q g p t = absurd cc
  hop_goes y (hop.Out name a) q g p t = named_goes y a (seat_named seat.device name) q g p t

  forwarded_goes : (y : Header) (o : Option Seat) (q : Place) (g : Header) → ((out : Seat) → P (going_out seat out y)) → Contains (local_or_forward w seat y o) (move.Go q g) → P g
  forwarded_goes y None q g p c =
      let m = in_map (move_by w seat y) (hops (rib_of seat.device.config) y.dst) (move.Go q g) c in
      hop_goes y m.0 q g p m.2
  forwarded_goes y (Some own) q g p c = let t = in_one (move.Local own.place) (move.Go q g) c in absurd cc

  dropped_goes : (b : Bool) (xs : List Move) (q : Place) (g : Header) → (Contains xs (move.Go q g) → P g) → Contains (cond b (move.Drop ∷ []) xs) (move.Go q g) → P g
  dropped_goes true xs q g f c = let t = in_one move.Drop (move.Go q g) c in absurd cc
  dropped_goes false xs q g f c = f c

  in_goes : (b : Bool) (xs : List Move) (q : Place) (g : Header) → (Contains xs (move.Go q g) → P g) → Contains (cond b xs (move.Drop ∷ [])) (move.Go q g) → P g
  in_goes true xs q g f c = f c
  in_goes false xs q g f c = let t = in_one move.Drop (move.Go q g) c in absurd cc

  -- where this holds of whatever may leave, it holds of what goes on
  pub goes_on : (h : Header) (q : Place) (g : Header) → ((out : Seat) → P (going_out seat out (coming_in seat h))) → Contains (moves_at w (Some seat) h) (move.Go q g) → P g
  goes_on h q g p c =
      let y = coming_in seat h in
      in_goes (lets_in seat h) (moves_in w seat y) q g (λ a. dropped_goes (is_dropped seat.device.config y.dst) (local_or_forward w seat y (owner seat y.dst)) q g (λ b. forwarded_goes y (owner seat y.dst) q g p b) a) c
