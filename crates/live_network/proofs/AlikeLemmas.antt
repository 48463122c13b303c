-- Interfaces that answer alike, and what becomes of headers at an interface: it depends on the rest of the network by what is sent
-- alone.
use Rattle.std.proofs.Common.{ℕ, ◌≡◌, ◌&&◌, ◌==◌, inl, inr, not, cond, Bool, true, false, List, [], ◌∷◌, Option, Some, None, filter, find, position, refl, ap, sym, ◌∙◌, subst}
use Rattle.std.specs.Prelude.{Contains}
use Rattle.std.specs.List.{list_any}
use Rattle.std.proofs.lemmas.Bool.Decides.{eqb_tells}
use Rattle.hdr_bits.specs.declared.header.Header.{Header}
use Rattle.like_devices.proofs.LikeLemmas.{at}
use Rattle.link_sends.specs.Sending.{SendAlike}
use Rattle.link_sends.proofs.FirstPlaceLemmas.{one_place}
use Rattle.net_types.specs.declared.config.Interface.{Interface}
use Rattle.net_types.specs.declared.network.Hop.{Hop}
use Rattle.net_types.specs.declared.network.Hop.TheVariants as hop
use Rattle.net_types.specs.declared.network.Move.TheVariants as move
use Rattle.net_types.specs.declared.network.NetDevice.{NetDevice}
use Rattle.net_types.specs.declared.network.Place.{Place}
use Rattle.net_types.specs.declared.network.Segment.{Segment}
use Rattle.net_types.specs.Routes.{hops, rib_of, has_address, same_text}
use Rattle.net_types.specs.World.{World, Seat, seat_named, seat_numbered, seat_passes, has_live, has_silent, segment_of, same_place}
use Rattle.net_types.specs.Moves.{moves_at, moves_in, local_or_forward, move_by, leave_if_any, leave_with, send, passes_list, going_out, coming_in, lets_in, is_dropped, owner}
use Rattle.net_types.proofs.Members.{from_any, to_any}
use Rattle.live_network.specs.Near.{SendFor, is_named, touches}
use Rattle.live_network.specs.Shown.{AnswerAlike, AnswerAlikeAt}

-- ---- two interfaces
live_alike : (i j : Interface) → AnswerAlike i j → (a : ℕ) → has_live a i ≡ has_live a j
live_alike i j s a = λ k. s.enabled k && has_address a (s.addresses k)

silent_alike : (i j : Interface) → AnswerAlike i j → (a : ℕ) → has_silent a i ≡ has_silent a j
silent_alike i j s a = λ k. not (s.enabled k) && has_address a (s.addresses k)

module _ (x y : NetDevice) (n : ℕ) where
  pub none_alike : None ≡ seat_numbered x n → None ≡ seat_numbered y n → AnswerAlikeAt x y n
  none_alike e f =
      record {
        live = λ a. ap (seat_passes (has_live a)) (sym e) ∙ ap (seat_passes (has_live a)) f;
        silent = λ a. ap (seat_passes (has_silent a)) (sym e) ∙ ap (seat_passes (has_silent a)) f;
      }

  pub both_alike : (s t : Seat) → Some s ≡ seat_numbered x n → Some t ≡ seat_numbered y n → AnswerAlike s.interface t.interface → AnswerAlikeAt x y n
  both_alike s t e f q =
      record {
        live = λ a. ap (seat_passes (has_live a)) (sym e) ∙ (live_alike s.interface t.interface q a ∙ ap (seat_passes (has_live a)) f);
        silent = λ a. ap (seat_passes (has_silent a)) (sym e) ∙ (silent_alike s.interface t.interface q a ∙ ap (seat_passes (has_silent a)) f);
      }

-- ---- two networks in which the device sends alike
of_that : (d : NetDevice) (seat : Seat) → seat.device ≡ d → (s : Seat) → Some s ≡ Some seat → s.device ≡ d
of_that d seat e s q = cc

pub at_same : (u w : World) (d : NetDevice) → ((n : ℕ) → Contains d.numbers n → SendAlike u w (record { device = d.name; interface = n })) → (seat : Seat) (h : Header) → seat.device ≡ d → moves_at u (Some seat) h ≡ moves_at w (Some seat) h
at_same u w d alike seat h e = at u w d alike (Some seat) h (of_that d seat e)

-- ---- links of which those segments are left that devices of some names have an end on
find_among : {A : Type 0} (p q : A → Bool) (xs : List A) → ((x : A) → p x ≡ true → q x ≡ true) → find p (filter q xs) ≡ find p xs
find_among p q [] keeps = refl
find_among p q (x ∷ xs) keeps = by (q x) (p x) refl refl (find_among p q xs keeps)
  where
    by : (b c : Bool) → q x ≡ b → p x ≡ c → find p (filter q xs) ≡ find p xs → find p (cond b (x ∷ filter q xs) (filter q xs)) ≡ cond c (Some x) (find p xs)
    by true true s t rest = ap (λ k. cond k (Some x) (find p (filter q xs))) t
    by true false s t rest = ap (λ k. cond k (Some x) (find p (filter q xs))) t ∙ rest
    by false true s t rest = (let both : false ≡ true = sym s ∙ keeps x t in absurd cc)
    by false false s t rest = rest

name_itself : (n : ℕ) → (n == n) ≡ true
name_itself n = elim (eqb_tells n n) [ inl p ↦ p.0 | inr p ↦ absurd (p.1 refl) ]

touched_there : (names : List ℕ) (e : Place) (s : Segment) → Contains names e.device → list_any (same_place e) s.ends ≡ true → touches names s ≡ true
touched_there names e s c t =
    let r = from_any (same_place e) s.ends t in
    let end : Contains s.ends e = subst (Contains s.ends) (sym (one_place e r.0 r.2)) r.1 in
    to_any (is_named names) s.ends e end (to_any (λ n. n == e.device) names e.device c (name_itself e.device))

pub near_sends : (u w : World) (names : List ℕ) → u.network ≡ w.network → u.links.segments ≡ filter (touches names) w.links.segments → SendFor u w names
near_sends u w names same near e c h a =
    let one : segment_of u e ≡ segment_of w e = ap (find (λ s. list_any (same_place e) s.ends)) near ∙ find_among (λ (s : Segment). list_any (same_place e) s.ends) (touches names) w.links.segments (λ s t. touched_there names e s c t) in
    ap (send u e a h) one ∙ (λ i. send (record { network = same i; links = w.links }) e a h (segment_of w e))
