-- Headers that two devices treat alike have the same moves by both.
use Rattle.std.proofs.Common.{ℕ, ◌≡◌, ◌<◌, ◌≤◌, ◌↔◌, Bool, true, false, cond, List, [], ◌∷◌, map, length, slice_get, Some, None, IsTrue, refl, ap, sym, ◌∙◌, subst, position, arith}
use Rattle.std.specs.Prelude.{Contains, ◌==◌, ◌&&◌, find, option_and_then, option_map}
use Rattle.hdr_bits.specs.declared.header.Header.{Header}
use Rattle.link_sends.specs.Sending.{SendAlike}
use Rattle.net_types.specs.declared.config.Config.{Config}
use Rattle.net_types.specs.declared.config.Interface.{Interface}
use Rattle.net_types.specs.declared.config.NatRule.{NatRule}
use Rattle.net_types.specs.declared.network.Hop.{Hop}
use Rattle.net_types.specs.declared.network.Hop.TheVariants as hop
use Rattle.net_types.specs.declared.network.Move.{Move}
use Rattle.net_types.specs.declared.network.Move.TheVariants as move
use Rattle.net_types.specs.declared.network.NetDevice.{NetDevice}
use Rattle.net_types.specs.declared.network.Place.{Place}
use Rattle.net_types.specs.Moves.{passes_list, is_inside, is_outside, lets_in, coming_in, is_dropped, owns, owner, send, going_out, leave_with, leave, leave_if_any, move_by, local_or_forward, moves_in, moves_at, moves}
use Rattle.net_types.specs.Routes.{hops, is_enabled, rib_of}
use Rattle.net_types.specs.Translation.{from_inside, from_outside}
use Rattle.net_types.specs.World.{World, Seat, seat_at, seat_in, seat_numbered, segment_of}
use Rattle.net_types.proofs.Members.{in_map, to_map}
use Rattle.change_scope.proofs.SeatLemmas.{item_there, seats_numbered, seats_named}

-- the devices do the same with the destination
pub data SameFate (c k : Config) (a : ℕ) : Type 0 where
  dropped : IsTrue (is_dropped c a) → IsTrue (is_dropped k a) → SameFate c k a
  own : (i : ℕ) → is_dropped c a ≡ false → is_dropped k a ≡ false → position (owns a) c.interfaces ≡ Some i → position (owns a) k.interfaces ≡ Some i → i < length c.interfaces → i < length k.interfaces → SameFate c k a
  sent : is_dropped c a ≡ false → is_dropped k a ≡ false → position (owns a) c.interfaces ≡ None → position (owns a) k.interfaces ≡ None → ((x : Hop) → Contains (hops (rib_of c) a) x ↔ Contains (hops (rib_of k) a) x) → SameFate c k a

-- two interfaces take and give these headers alike
pub record SeatsAlike (c k : Config) (Alike : Header → Type 0) (x y : Interface) : Type 0 where
  pub name : x.name ≡ y.name
  pub side : x.side ≡ y.side
  pub enabled : is_enabled x ≡ is_enabled y
  pub input : (h : Header) → Alike h → passes_list c x.input h ≡ passes_list k y.input h
  pub output : (h : Header) → Alike h → passes_list c x.output h ≡ passes_list k y.output h

-- two devices treat these headers alike, and translate them into such headers
pub record TreatAlike (w v : World) (d e : NetDevice) (Alike : Header → Type 0) : Type 0 where
  pub name : d.name ≡ e.name
  pub numbers : d.numbers ≡ e.numbers
  pub rules : d.config.nat ≡ e.config.nat
  pub enough : length d.config.interfaces ≤ length d.numbers
  pub count : length e.config.interfaces ≡ length d.config.interfaces
  pub seats : (i : ℕ) (x y : Interface) → slice_get d.config.interfaces i ≡ Some x → slice_get e.config.interfaces i ≡ Some y → SeatsAlike d.config e.config Alike x y
  pub sends : (n : ℕ) → Contains d.numbers n → SendAlike w v (record { device = d.name; interface = n })
  pub fate : (h : Header) → Alike h → SameFate d.config e.config h.dst
  pub outside : (h : Header) → Alike h → Alike (from_outside e.config.nat h)
  pub inside : (h : Header) → Alike h → Alike (from_inside e.config.nat h)

either : (P : Header → Type 0) (b : Bool) (g h : Header) → P g → P h → P (cond b g h)
either P true g h p q = p
either P false g h p q = q

same_members : {A B : Type 0} (f g : A → B) (xs ys : List A) → ((x : A) → f x ≡ g x) → ((x : A) → Contains xs x → Contains ys x) → (y : B) → Contains (map f xs) y → Contains (map g ys) y
same_members f g xs ys e s y c =
    let m = in_map f xs y c in
    subst (Contains (map g ys)) (sym (e m.0) ∙ m.2) (to_map g ys m.0 (s m.0 m.1))

-- the moves of a seat by what its device does with the destination
module _ (w : World) (seat : Seat) (g : Header) where
  drops : IsTrue (is_dropped seat.device.config g.dst) → moves_in w seat g ≡ move.Drop ∷ []
  drops f = ap (λ b. cond b (move.Drop ∷ []) (local_or_forward w seat g (owner seat g.dst))) f

  seat_there : (d : NetDevice) (i n : ℕ) (x : Interface) → slice_get d.config.interfaces i ≡ Some x → slice_get d.numbers i ≡ Some n → seat_in d i ≡ Some (record { place = record { device = d.name; interface = n }; device = d; interface = x })
  seat_there d i n x e f =
      ap (option_and_then (λ y. option_map (λ m. record { place = record { device = d.name; interface = m }; device = d; interface = y }) (slice_get d.numbers i))) e ∙ ap (option_map (λ m. record { place = record { device = d.name; interface = m }; device = d; interface = x })) f

  is_local : (i n : ℕ) → is_dropped seat.device.config g.dst ≡ false → position (owns g.dst) seat.device.config.interfaces ≡ Some i → i < length seat.device.config.interfaces → slice_get seat.device.numbers i ≡ Some n → moves_in w seat g ≡ move.Local (record { device = seat.device.name; interface = n }) ∷ []
  is_local i n f q l e =
      let t = item_there seat.device.config.interfaces i l in
      ap (λ b. cond b (move.Drop ∷ []) (local_or_forward w seat g (owner seat g.dst))) f ∙ ap (local_or_forward w seat g) (ap (option_and_then (seat_in seat.device)) q ∙ seat_there seat.device i n t.0 t.1 e)

  forwards : is_dropped seat.device.config g.dst ≡ false → position (owns g.dst) seat.device.config.interfaces ≡ None → moves_in w seat g ≡ map (move_by w seat g) (hops (rib_of seat.device.config) g.dst)
  forwards f q = ap (λ b. cond b (move.Drop ∷ []) (local_or_forward w seat g (owner seat g.dst))) f ∙ ap (local_or_forward w seat g) (ap (option_and_then (seat_in seat.device)) q)

same_list : {A : Type 0} (xs ys : List A) (m : A) → xs ≡ ys → Contains xs m ↔ Contains ys m
same_list xs ys m e = (λ c. subst (λ l. Contains l m) e c, λ c. subst (λ l. Contains l m) (sym e) c)

iff_then : (A B C : Type 0) → A ↔ B → B ↔ C → A ↔ C
iff_then A B C p q = (λ a. q.0 (p.0 a), λ c. p.1 (q.1 c))

module _ (w v : World) (d e : NetDevice) (Alike : Header → Type 0) (s : TreatAlike w v d e Alike) where
  one : Place → Interface → Seat
  one p x = record { place = p; device = d; interface = x }

  two : Place → Interface → Seat
  two p y = record { place = p; device = e; interface = y }

  at : ℕ → Place
  at n = record { device = d.name; interface = n }

  leaves : (p : Place) (u t x y : Interface) (n next : ℕ) (g : Header) → Alike g → Contains d.numbers n → u.side ≡ t.side → SeatsAlike d.config e.config Alike x y → leave w (one p u) g next (one (at n) x) ≡ leave v (two p t) g next (two (at n) y)
  unfolding one two at
  leaves p u t x y n next g o c r k =
      let b = is_inside t.side && is_outside y.side in
      let z = cond b (from_inside e.config.nat g) g in
      let oz : Alike z = either Alike b (from_inside e.config.nat g) g (s.inside g o) o in
      let i : going_out (one p u) (one (at n) x) g ≡ z =
      ap (λ side. cond (is_inside side && is_outside x.side) (from_inside d.config.nat g) g) r
      ∙ (ap (λ side. cond (is_inside t.side && is_outside side) (from_inside d.config.nat g) g) k.side ∙ ap (λ (rules : List NatRule). cond b (from_inside rules g) g) s.rules) in
      ap (λ y. leave_with w (one p u) y next (one (at n) x)) i
      ∙ (ap (λ q. cond q (send w (at n) next z (segment_of w (at n))) move.Lost) (k.output z oz) ∙ ap (λ m. cond (passes_list e.config y.output z) m move.Lost) (s.sends n c z next))

  by : (p : Place) (u t : Interface) → u.side ≡ t.side → (g : Header) → Alike g → (c : Hop) → move_by w (one p u) g c ≡ move_by v (two p t) g c
  unfolding one two at
  by p u t r g o hop.Discard = refl
  by p u t r g o (hop.Out name next) =
      seats_named d e s.name s.numbers s.count (SeatsAlike d.config e.config Alike) s.seats (λ a b. leave_if_any w (one p u) g next a ≡ leave_if_any v (two p t) g next b) refl (λ x y n c k. leaves p u t x y n next g o c r k) name (λ x y k. k.name)

  inside : (p : Place) (u t : Interface) → u.side ≡ t.side → (g : Header) → Alike g → SameFate d.config e.config g.dst → (m : Move) → Contains (moves_in w (one p u) g) m ↔ Contains (moves_in v (two p t) g) m
  unfolding one two
  inside p u t r g o (dropped a b) m = same_list (moves_in w (one p u) g) (moves_in v (two p t) g) m (drops w (one p u) g a ∙ sym (drops v (two p t) g b))
  inside p u t r g o (own i a b k l f h) m =
      let q = item_there d.numbers i (let z = s.enough in omega (arith, z, f)) in
      let j : slice_get e.numbers i ≡ Some q.0 = ap (λ (ns : List ℕ). slice_get ns i) (sym s.numbers) ∙ q.1 in
      same_list (moves_in w (one p u) g) (moves_in v (two p t) g) m (is_local w (one p u) g i q.0 a k f q.1 ∙ (ap (λ z. move.Local (record { device = z; interface = q.0 }) ∷ []) s.name ∙ sym (is_local v (two p t) g i q.0 b l h j)))
  inside p u t r g o (sent a b k l c) m =
      let f = move_by w (one p u) g in
      let h = move_by v (two p t) g in
      let xs = hops (rib_of d.config) g.dst in
      let ys = hops (rib_of e.config) g.dst in
      let i : moves_in w (one p u) g ≡ map f xs = forwards w (one p u) g a k in
      let j : moves_in v (two p t) g ≡ map h ys = forwards v (two p t) g b l in (
        λ z. subst (λ r. Contains r m) (sym j) (same_members f h xs ys (by p u t r g o) (λ x q. (c x).0 q) m (subst (λ r. Contains r m) i z)),
        λ z. subst (λ r. Contains r m) (sym i) (same_members h f ys xs (λ x. sym (by p u t r g o x)) (λ x q. (c x).1 q) m (subst (λ r. Contains r m) j z)),
      )

  let_in : (b : Bool) (xs ys : List Move) (m : Move) → Contains xs m ↔ Contains ys m → Contains (cond b xs (move.Drop ∷ [])) m ↔ Contains (cond b ys (move.Drop ∷ [])) m
  let_in true xs ys m i = i
  let_in false xs ys m i = (λ c. c, λ c. c)

  arrives : (n : ℕ) (x y : Interface) → SeatsAlike d.config e.config Alike x y → (h : Header) → Alike h → (m : Move) → Contains (moves_at w (Some (one (at n) x)) h) m ↔ Contains (moves_at v (Some (two (at n) y)) h) m
  unfolding one two at
  arrives n x y k h o m =
      let a = one (at n) x in
      let b = two (at n) y in
      let z = cond (is_outside y.side) (from_outside e.config.nat h) h in
      let oz : Alike z = either Alike (is_outside y.side) (from_outside e.config.nat h) h (s.outside h o) o in
      let i : coming_in a h ≡ z = ap (λ side. cond (is_outside side) (from_outside d.config.nat h) h) k.side ∙ ap (λ (rules : List NatRule). cond (is_outside y.side) (from_outside rules h) h) s.rules in
      let t : lets_in a h ≡ lets_in b h = ap (λ z. z && passes_list d.config x.input h) k.enabled ∙ ap (λ z. is_enabled y && z) (k.input h o) in
      let first : moves_at w (Some a) h ≡ cond (lets_in b h) (moves_in w a z) (move.Drop ∷ []) = ap (λ g. cond (lets_in a h) (moves_in w a g) (move.Drop ∷ [])) i ∙ ap (λ q. cond q (moves_in w a z) (move.Drop ∷ [])) t in
      let c = let_in (lets_in b h) (moves_in w a z) (moves_in v b z) m (inside (at n) x y k.side z oz (s.fate z oz) m) in (
        λ q. c.0 (subst (λ r. Contains r m) first q),
        λ q. subst (λ r. Contains r m) (sym first) (c.1 q),
      )

  pub same_numbered : (h : Header) → Alike h → (i : ℕ) (m : Move) → Contains (moves_at w (seat_numbered d i) h) m ↔ Contains (moves_at v (seat_numbered e i) h) m
  unfolding one two at
  same_numbered h o i m =
      seats_numbered d e s.name s.numbers s.count (SeatsAlike d.config e.config Alike) s.seats (λ a b. Contains (moves_at w a h) m ↔ Contains (moves_at v b h) m) (λ c. c, λ c. c) (λ x y n c k. arrives n x y k h o m) i

-- what arrives at the devices of one name
pub same_moves : (w v : World) (p : Place) (d e : NetDevice) (Alike : Header → Type 0) → find (λ x. x.name == p.device) w.network.devices ≡ Some d → find (λ x. x.name == p.device) v.network.devices ≡ Some e → TreatAlike w v d e Alike → (h : Header) → Alike h → (m : Move) → Contains (moves w p h) m ↔ Contains (moves v p h) m
same_moves w v p d e Alike a b s h o m =
    let i : seat_at w p ≡ seat_numbered d p.interface = ap (option_and_then (λ y. seat_numbered y p.interface)) a in
    let j : seat_at v p ≡ seat_numbered e p.interface = ap (option_and_then (λ y. seat_numbered y p.interface)) b in
    let c = same_numbered w v d e Alike s h o p.interface m in (
      λ z. subst (λ q. Contains (moves_at v q h) m) (sym j) (c.0 (subst (λ q. Contains (moves_at w q h) m) i z)),
      λ z. subst (λ q. Contains (moves_at w q h) m) (sym i) (c.1 (subst (λ q. Contains (moves_at v q h) m) j z)),
    )
