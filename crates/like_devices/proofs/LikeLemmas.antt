-- A device that is equal in two worlds, and sends alike, does the same in both.
use Rattle.std.proofs.Common.{ℕ, ◌≡◌, ◌<◌, ◌+◌, inl, inr, take, get_or, cond, List, [], ◌∷◌, map, length, slice_get, Option, Some, None, refl, ap, sym, ◌∙◌, subst, find, position}
use Rattle.std.specs.Prelude.{Contains, ◌==◌, option_and_then, option_map}
use Rattle.std.proofs.lemmas.List.Elements.{Contains-get_or, Contains-push_cases}
use Rattle.std.proofs.lemmas.List.{take_more}
use Rattle.std.proofs.lemmas.Option.{get_or_from_slice_get, slice_get_within}
use Rattle.hdr_bits.specs.declared.header.Header.{Header}
use Rattle.net_types.specs.declared.config.Interface.{Interface}
use Rattle.net_types.specs.declared.network.Hop.{Hop}
use Rattle.net_types.specs.declared.network.Hop.TheVariants as hop
use Rattle.net_types.specs.declared.network.Move.TheVariants as move
use Rattle.net_types.specs.declared.network.NetDevice.{NetDevice}
use Rattle.net_types.specs.declared.network.Place.{Place}
use Rattle.net_types.specs.Moves.{going_out, leave_with, leave_if_any, move_by, owner, local_or_forward, moves_in, lets_in, coming_in, moves_at, is_dropped, passes_list}
use Rattle.net_types.specs.Routes.{same_text, hops, rib_of}
use Rattle.net_types.specs.World.{World, Seat, seat_in, seat_numbered, seat_named, seat_at}
use Rattle.link_sends.specs.Sending.{SendAlike}
use Rattle.like_devices.specs.Like.{IsLike}

pub among : {A : Type 0} (xs : List A) (i : ℕ) (n : A) → slice_get xs i ≡ Some n → Contains xs n
among xs i n e = subst (Contains xs) (get_or_from_slice_get xs i n n e) (Contains-get_or xs i n (slice_get_within xs i n e))

-- the place of an interface of the device has one of the device's numbers
pub record IsPlaceOf (d : NetDevice) (p : Place) : Type 0 where
  pub number : ℕ
  pub among : Contains d.numbers number
  pub place : p ≡ record { device = d.name; interface = number }

placed : (d : NetDevice) (i : ℕ) (f : Option Interface) (m : Option ℕ) (out : Seat) → slice_get d.numbers i ≡ m → Some out ≡ option_and_then (λ g. option_map (λ n. record { place = record { device = d.name; interface = n }; device = d; interface = g }) m) f → (out.device ≡ d) × IsPlaceOf d out.place
placed d i None m out s e = absurd cc
placed d i (Some g) None out s e = absurd cc
placed d i (Some g) (Some n) out s e = (cc, record { number = n; among = among d.numbers i n s; place = cc })

pub placed_in : (d : NetDevice) (q : Option ℕ) (out : Seat) → Some out ≡ option_and_then (seat_in d) q → (out.device ≡ d) × IsPlaceOf d out.place
placed_in d None out e = absurd cc
placed_in d (Some i) out e = placed d i (slice_get d.config.interfaces i) (slice_get d.numbers i) out refl e

pub same_map : {A B : Type 0} (f g : A → B) (xs : List A) → ((x : A) → f x ≡ g x) → map f xs ≡ map g xs
same_map f g [] e = refl
same_map f g (x ∷ xs) e = ap (λ y. y ∷ map f xs) (e x) ∙ ap (λ ys. g x ∷ ys) (same_map f g xs e)

module _ (w v : World) (d : NetDevice) (alike : (n : ℕ) → Contains d.numbers n → SendAlike w v (record { device = d.name; interface = n })) where
  sends : (out : Seat) → IsPlaceOf d out.place → SendAlike w v out.place
  sends out p = subst (SendAlike w v) (sym p.place) (alike p.number p.among)

  leaves_with : (seat out : Seat) (g : Header) (a : ℕ) → IsPlaceOf d out.place → leave_with w seat g a out ≡ leave_with v seat g a out
  leaves_with seat out g a p = ap (λ m. cond (passes_list seat.device.config out.interface.output g) m move.Lost) (sends out p g a)

  leaves : (seat : Seat) (g : Header) (a : ℕ) (o : Option Seat) → ((out : Seat) → Some out ≡ o → IsPlaceOf d out.place) → leave_if_any w seat g a o ≡ leave_if_any v seat g a o
  leaves seat g a None p = refl
  leaves seat g a (Some out) p = leaves_with seat out (going_out seat out g) a (p out refl)

  by : (seat : Seat) (g : Header) → seat.device ≡ d → (x : Hop) → move_by w seat g x ≡ move_by v seat g x
  by seat g e hop.Discard = refl
  by seat g e (hop.Out name a) =
      leaves seat g a (seat_named seat.device name) (λ out s. (placed_in d (position (λ i. same_text i.name name) d.config.interfaces) out (subst (λ x. Some out ≡ seat_named x name) e s)).1)

  forwards : (seat : Seat) (g : Header) → seat.device ≡ d → (o : Option Seat) → local_or_forward w seat g o ≡ local_or_forward v seat g o
  forwards seat g e None = same_map (move_by w seat g) (move_by v seat g) (hops (rib_of seat.device.config) g.dst) (by seat g e)
  forwards seat g e (Some own) = refl

  inside : (seat : Seat) (g : Header) → seat.device ≡ d → moves_in w seat g ≡ moves_in v seat g
  inside seat g e = ap (λ ms. cond (is_dropped seat.device.config g.dst) (move.Drop ∷ []) ms) (forwards seat g e (owner seat g.dst))

  pub at : (o : Option Seat) (h : Header) → ((seat : Seat) → Some seat ≡ o → seat.device ≡ d) → moves_at w o h ≡ moves_at v o h
  at None h p = refl
  at (Some seat) h p = ap (λ ms. cond (lets_in seat h) ms (move.Drop ∷ [])) (inside seat (coming_in seat h) (p seat refl))

  numbered : (i : ℕ) (h : Header) → moves_at w (seat_numbered d i) h ≡ moves_at v (seat_numbered d i) h
  numbered i h = at (seat_numbered d i) h (λ seat s. (placed_in d (position (λ n. n == i) d.numbers) seat s).0)

pub like : (w v : World) (name : ℕ) (d e : NetDevice) → Some d ≡ find (λ x. x.name == name) w.network.devices → Some e ≡ find (λ x. x.name == name) v.network.devices → d ≡ e → ((n : ℕ) → Contains d.numbers n → SendAlike w v (record { device = d.name; interface = n })) → IsLike w v name
like w v name d e a b s alike p q h =
    let x : seat_at w p ≡ seat_numbered d p.interface = ap (λ n. option_and_then (λ y. seat_numbered y p.interface) (find (λ z. z.name == n) w.network.devices)) q ∙ ap (option_and_then (λ y. seat_numbered y p.interface)) (sym a) in
    let y : seat_at v p ≡ seat_numbered e p.interface = ap (λ n. option_and_then (λ z. seat_numbered z p.interface) (find (λ z. z.name == n) v.network.devices)) q ∙ ap (option_and_then (λ z. seat_numbered z p.interface)) (sym b) in
    ap (λ o. moves_at w o h) x ∙ (numbered w v d alike p.interface h ∙ ap (λ o. moves_at v o h) (sym (y ∙ ap (λ z. seat_numbered z p.interface) (sym s))))

-- one more number of the list
pub alike_more : (w v : World) (device : ℕ) (xs : List ℕ) (i d : ℕ) → i < length xs → ((n : ℕ) → Contains (take i xs) n → SendAlike w v (record { device = device; interface = n })) → SendAlike w v (record { device = device; interface = get_or xs i d }) → (n : ℕ) → Contains (take (i + 1) xs) n → SendAlike w v (record { device = device; interface = n })
alike_more w v device xs i d l old one n k =
    elim (Contains-push_cases (take i xs) (get_or xs i d) n (subst (λ ys. Contains ys n) (take_more xs i d l) k)) [
      | inl m ↦ old n m
      | inr e ↦ subst (λ m. SendAlike w v (record { device = device; interface = m })) e one
    ]
