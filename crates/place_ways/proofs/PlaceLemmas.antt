-- The ways of places, and their positions in lists that places share.
use Rattle.std.proofs.Common.{ℕ, ◌≡◌, ◌<◌, ◌+◌, ◌⊎◌, ◌↔◌, inl, inr, nat_eq, Bool, true, false, cond, List, [], ◌∷◌, ◌++◌, take, length, get_or, slice_get, Option, Some, None, All, find, position, option_and_then, refl, ap, sym, ◌∙◌, subst, true≢false}
use Rattle.std.specs.Prelude.{Contains, IfSome, ◌==◌, ◌&&◌}
use Rattle.std.proofs.lemmas.Bool.Decides.{eqb_tells}
use Rattle.std.proofs.lemmas.List.{take_more}
use Rattle.std.proofs.lemmas.List.Elements.{Contains-push_cases}
use Rattle.hdr_bits.specs.declared.header.Header.{Header}
use Rattle.hdr_bits.specs.Lists.{Extends}
use Rattle.hdr_bits.proofs.ListLemmas.{extends_get, extends_none}
use Rattle.cube_diagram.specs.Functions.{Functions, Keeps, count_of}
use Rattle.device_fates.specs.declared.fate.Fate.{Fate}
use Rattle.like_devices.specs.Like.{IsLike}
use Rattle.like_devices.proofs.LikeLemmas.{placed_in}
use Rattle.link_sends.proofs.FirstPlaceLemmas.{one_place}
use Rattle.net_forms.specs.declared.forms.NetworkForm.{NetworkForm}
use Rattle.net_forms.specs.Forms.{IsDeviceForm}
use Rattle.net_forms.specs.Networks.{IsNetworkForm}
use Rattle.net_forms.proofs.FindLemmas.{at_position, found}
use Rattle.net_forms.proofs.FindLemmas as finding
use Rattle.net_forms.proofs.FormLemmas.{device_found, devices_kept, seat_form, some_then}
use Rattle.net_types.specs.declared.network.Move.TheVariants as move
use Rattle.net_types.specs.declared.network.NetDevice.{NetDevice}
use Rattle.net_types.specs.declared.network.Place.{Place}
use Rattle.net_types.specs.Moves.{coming_in, moves, moves_at}
use Rattle.net_types.specs.World.{World, Seat, same_place, seat_at, seat_in, seat_numbered}
use Rattle.net_types.proofs.Members.{here, in_none, in_one}
use Rattle.net_types.proofs.Members as members
use Rattle.net_view.specs.Borrowed.{seat_of, world_of}
use Rattle.set_walk.specs.Scopes.{IsKept}
use Rattle.set_walk.specs.Sets.{InSet}
use Rattle.set_walk.proofs.ScopeLemmas.{stays_kept, stays_kept_in}
use Rattle.set_walk.proofs.SetLemmas.{kept_below}
use Rattle.set_walk.specs.declared.net.PlaceWays.{PlaceWays}
use Rattle.set_walk.specs.declared.step.Way.{Way}
use Rattle.set_walk.specs.Ways.{AreWaysAt}
use Rattle.place_ways.specs.declared.base.Bases.{Bases}
use Rattle.place_ways.specs.declared.seat.ScopedNetwork.{ScopedNetwork}
use Rattle.place_ways.specs.declared.seat.WaySeat.{WaySeat}
use Rattle.place_ways.specs.Adding.{HasMoves}
use Rattle.place_ways.specs.Places.{AreBases, AreBasesOf, AreDone, ArePlaceWays, ArePositions, AreRight, AreTaken, DropsAll, HasSeatWays, HasWays, IsNumbered, IsPlaceIn, IsPosition, IsPut, IsScopeOf, IsScopedNetwork, LosesNone, TakesPositions, put_position}
use Rattle.place_ways.specs.Seats.{AreCounted, IsSeatOf, IsWaySeat}
use Rattle.place_ways.proofs.AddLemmas.{given_kept, moves_kept}
use Rattle.place_ways.proofs.BaseLemmas.{same_number}

-- ---- a compiled network
pub counted : (fs : Functions) (fates : List Fate) (n : NetworkForm) → IsNetworkForm fs fates n → AreCounted n
counted fs fates n a =
    record { each = λ i d f e g. (device_found fs fates n d f a (record { position = i; device = e; form = g })).seats.count }

pub way_seat : (fs : Functions) (fates : List Fate) (scope : ℕ) (p : Place) (n : NetworkForm) (s : WaySeat) → IsNetworkForm fs fates n → IsScopeOf (world_of n.world) fs scope → Some (seat_of s.seat) ≡ seat_at (world_of n.world) p → s.scope ≡ scope → IsSeatOf n s → s.fates.now ≡ fates → IsWaySeat fs s
way_seat fs fates scope p n s a c t q i e =
    let d : IsDeviceForm fs s.fates.now s.seat.device.now s.device.now = subst (λ x. IsDeviceForm fs x s.seat.device.now s.device.now) (sym e) (device_found fs fates n s.seat.device.now s.device.now a i.device) in
    record { device = d; form = seat_form fs s.fates.now s.seat.device.now s.device.now (seat_of s.seat) s.form d i.form; scope = subst (λ x. x < count_of fs) (sym q) c.below; comes = λ h v j. subst (λ x. InSet fs x (coming_in (seat_of s.seat) h)) (sym q) (c.comes p (seat_of s.seat) h (sym t) v (subst (λ x. InSet fs x h) q j)) }

pub form_kept : (f g : Functions) (fates : List Fate) (n : NetworkForm) → Keeps f g → IsNetworkForm f fates n → IsNetworkForm g fates n
form_kept f g fates n k a =
    record {
      wiring = a.wiring;
      devices = devices_kept (record { diagrams = f; fates = fates }) (record { diagrams = g; fates = fates }) n.world.network.now.devices n.devices.items (record { diagrams = k; fates = extends_none fates }) a.devices;
    }

pub scope_of_kept : (w : World) (f g : Functions) (scope : ℕ) → Keeps f g → IsScopeOf w f scope → IsScopeOf w g scope
scope_of_kept w f g scope k a = record { below = kept_below f g scope k a.below; kept = stays_kept f g scope k a.below w a.kept; comes = stays_kept_in f g scope k a.below w a.comes }

pub scoped_kept : (f g : Functions) (n : ScopedNetwork) → Keeps f g → IsScopedNetwork f n → IsScopedNetwork g n
scoped_kept f g n k a = record { form = form_kept f g n.fates.now n.form.now k a.form; scope = scope_of_kept (world_of n.form.now.world) f g n.scope k a.scope }

-- ---- what is found in a list
find_in : {A : Type 0} (p : A → Bool) (xs : List A) (x : A) → find p xs ≡ Some x → Contains xs x × (p x ≡ true)
find_in p [] x e = absurd cc
find_in p (y ∷ ys) x e =
    (elim (p y) as (λ b. p y ≡ b → cond b (Some y) (find p ys) ≡ Some x → Contains (y ∷ ys) x × (p x ≡ true)) [
      | true ↦ λ t s. let q : y ≡ x = cc in (subst (Contains (y ∷ ys)) q (here y ys), ap p (sym q) ∙ t)
      | false ↦ λ t s. let r = find_in p ys x s in (members.there y x ys r.0, r.1)
    ]) refl e

pub numbered_there : (d : NetDevice) (i : ℕ) (seat : Seat) (o : Option ℕ) → position (λ n. n == i) d.numbers ≡ o → Some seat ≡ option_and_then (seat_in d) o → Contains d.numbers i
numbered_there d i seat None q e = absurd cc
numbered_there d i seat (Some j) q e =
    let t = finding.there d.numbers j (at_position (λ n. n == i) d.numbers j (sym q)).1 in
    let r = find_in (λ n. n == i) d.numbers t.0 (found (λ n. n == i) d.numbers j t.0 (sym q) (sym t.1)) in
    subst (Contains d.numbers) (same_number t.0 i r.1) r.0

module _ (w : World) (p : Place) where
  -- the device of an interface is the first of its name
  device_by : (seat : Seat) (o : Option NetDevice) → Some seat ≡ option_and_then (λ d. seat_numbered d p.interface) o → Some seat.device ≡ o
  device_by seat None e = absurd cc
  device_by seat (Some d) e = ap Some (placed_in d (position (λ n. n == p.interface) d.numbers) seat e).0

  pub device_of : (seat : Seat) → Some seat ≡ seat_at w p → Some seat.device ≡ find (λ d. d.name == p.device) w.network.devices
  device_of seat e = device_by seat (find (λ d. d.name == p.device) w.network.devices) e

  place_by : (seat : Seat) (o : Option NetDevice) → find (λ d. d.name == p.device) w.network.devices ≡ o → Some seat ≡ option_and_then (λ d. seat_numbered d p.interface) o → IsPlaceIn w.network.devices p
  place_by seat None q e = absurd cc
  place_by seat (Some d) q e =
      let f = find_in (λ x. x.name == p.device) w.network.devices d q in
      record {
        device = d;
        among = f.0;
        named = same_number d.name p.device f.1;
        numbered = numbered_there d p.interface seat (position (λ n. n == p.interface) d.numbers) refl e;
      }

  pub place_there : (seat : Seat) → Some seat ≡ seat_at w p → IsPlaceIn w.network.devices p
  place_there seat e = place_by seat (find (λ d. d.name == p.device) w.network.devices) refl e

  -- ---- a place
  pub absent : None ≡ seat_at w p → DropsAll w p
  absent e h v m = subst (λ (o : Option Seat). Contains (moves_at w o h) m ↔ (move.Drop ≡ m)) e (λ c. in_one move.Drop m c, λ q. subst (λ z. Contains (move.Drop ∷ []) z) q (here move.Drop []))

  pub seat_ways : (v : World) (fs : Functions) (scope : ℕ) (lists : List PlaceWays) (seat : Seat) (i : ℕ) → Some seat ≡ seat_at w p → v ≡ w → HasSeatWays v fs scope lists seat i → HasWays w fs scope lists p i
  seat_ways v fs scope lists seat i e q s =
      record {
        ways = s.ways;
        there = s.there;
        right = record {
          each = s.given;
          exact = subst (λ (o : Option Seat). HasMoves (moves_at w o) fs scope s.ways.ways.items) e (subst (λ (x : World). HasMoves (moves_at x (Some seat)) fs scope s.ways.ways.items) q s.moves);
        };
      }

  pub ways_kept : (f g : Functions) (scope : ℕ) (ways : List Way) → Keeps f g → scope < count_of f → AreWaysAt w p f scope ways → AreWaysAt w p g scope ways
  ways_kept f g scope ways k l a = record { each = given_kept f g ways k a.each; exact = moves_kept f g scope (moves w p) ways k l a.each a.exact }

  has_kept : (f g : Functions) (scope : ℕ) (old new : List PlaceWays) (i : ℕ) → Keeps f g → scope < count_of f → Extends old new → HasWays w f scope old p i → HasWays w g scope new p i
  has_kept f g scope old new i k l x a = record { ways = a.ways; there = extends_get old new i a.ways x a.there; right = ways_kept f g scope a.ways.ways.items k l a.right }

  pub position_kept : (f g : Functions) (scope : ℕ) (old new : List PlaceWays) (o : Option ℕ) → Keeps f g → scope < count_of f → Extends old new → IsPosition w f scope old p o → IsPosition w g scope new p o
  position_kept f g scope old new None k l x a = a
  position_kept f g scope old new (Some i) k l x a = has_kept f g scope old new i k l x a

  pub if_kept : (f g : Functions) (scope : ℕ) (old new : List PlaceWays) (o : Option ℕ) → Keeps f g → scope < count_of f → Extends old new → IfSome o (HasWays w f scope old p) → IfSome o (HasWays w g scope new p)
  if_kept f g scope old new o k l x a = some_then (HasWays w f scope old p) (HasWays w g scope new p) o (λ i r. has_kept f g scope old new i k l x r) a

  position_by : (fs : Functions) (scope : ℕ) (lists : List PlaceWays) (o : Option ℕ) → IfSome o (HasWays w fs scope lists p) → (o ≡ None → DropsAll w p) → IsPosition w fs scope lists p o
  position_by fs scope lists None r m = m refl
  position_by fs scope lists (Some i) r m = r

  right_at : (fs : Functions) (scope : ℕ) (lists : List PlaceWays) (o : Option ℕ) (v : PlaceWays) → IsPosition w fs scope lists p o → option_and_then (slice_get lists) o ≡ Some v → AreWaysAt w p fs scope v.ways.items
  right_at fs scope lists None v a e = absurd cc
  right_at fs scope lists (Some i) v a e =
      let q : Some a.ways ≡ Some v = sym a.there ∙ e in
      let t : a.ways ≡ v = cc in
      subst (λ (x : PlaceWays). AreWaysAt w p fs scope x.ways.items) t a.right

  missing_at : (fs : Functions) (scope : ℕ) (lists : List PlaceWays) (o : Option ℕ) → IsPosition w fs scope lists p o → option_and_then (slice_get lists) o ≡ None → DropsAll w p
  missing_at fs scope lists None a e = a
  missing_at fs scope lists (Some i) a e = let q : Some a.ways ≡ None = sym a.there ∙ e in absurd cc

  -- in another world with the same moves there
  drops_like : (v : World) → ((h : Header) → moves w p h ≡ moves v p h) → DropsAll w p → DropsAll v p
  drops_like v e a h x m =
      let t = a h x m in
      (λ c. t.0 (subst (λ l. Contains l m) (sym (e h)) c), λ q. subst (λ l. Contains l m) (e h) (t.1 q))

  ways_like : (v : World) (fs : Functions) (scope : ℕ) (ways : List Way) → ((h : Header) → moves w p h ≡ moves v p h) → AreWaysAt w p fs scope ways → AreWaysAt v p fs scope ways
  ways_like v fs scope ways e a =
      record {
        each = a.each;
        exact = λ h x i m. let t = a.exact h x i m in (λ c. t.0 (subst (λ l. Contains l m) (sym (e h)) c), λ q. subst (λ l. Contains l m) (e h) (t.1 q));
      }

  pub position_like : (v : World) (fs : Functions) (scope : ℕ) (lists : List PlaceWays) (o : Option ℕ) → ((h : Header) → moves w p h ≡ moves v p h) → IsPosition w fs scope lists p o → IsPosition v fs scope lists p o
  position_like v fs scope lists None e a = drops_like v e a
  position_like v fs scope lists (Some i) e a = record { ways = a.ways; there = a.there; right = ways_like v fs scope a.ways.ways.items e a.right }

-- ---- all places
module _ (w : World) (fs : Functions) (scope : ℕ) (lists : List PlaceWays) (at : Place → Option ℕ) where
  none_there : (p : Place) (o : Option Seat) → seat_at w p ≡ o → AreDone w at (IsPlaceIn w.network.devices) → at p ≡ None → DropsAll w p
  none_there p None q d e = absent w p (sym q)
  none_there p (Some seat) q d e = d p (place_there w p seat (sym q)) e

  pub all_placed : AreRight w fs scope lists at → AreDone w at (IsPlaceIn w.network.devices) → ArePositions w fs scope lists at
  all_placed r d p = position_by w p fs scope lists (at p) (r p) (λ e. none_there p (seat_at w p) refl d e)

  pub positions_ways : scope < count_of fs → IsKept w fs scope → ArePositions w fs scope lists at → ArePlaceWays w fs scope lists at
  positions_ways l k a = record { below = l; kept = k; right = λ p v e. right_at w p fs scope lists (at p) v (a p) e; missing = λ p e h v i m. missing_at w p fs scope lists (at p) (a p) e h v m }

  pub like_taken : (v : World) (names : List ℕ) → All (IsLike w v) names → ArePositions w fs scope lists at → AreTaken v fs scope lists names at
  like_taken v names l a p c = position_like w p v fs scope lists (at p) (subst (IsLike w v) c.2 (l c.0 p.device c.1) p refl) (a p)

  pub none_taken : (names : List ℕ) → names ≡ [] → AreTaken w fs scope lists names at
  none_taken names e p c = absurd (in_none p.device (subst (λ l. Contains l p.device) e c))

module _ (w : World) (f g : Functions) (scope : ℕ) (old new : List PlaceWays) (k : Keeps f g) (l : scope < count_of f) (x : Extends old new) where
  pub positions_kept : (at : Place → Option ℕ) → ArePositions w f scope old at → ArePositions w g scope new at
  positions_kept at a p = position_kept w p f g scope old new (at p) k l x (a p)

  pub taken_kept : (names : List ℕ) (at : Place → Option ℕ) → AreTaken w f scope old names at → AreTaken w g scope new names at
  taken_kept names at a p c = position_kept w p f g scope old new (at p) k l x (a p c)

  pub right_kept : (at : Place → Option ℕ) → AreRight w f scope old at → AreRight w g scope new at
  right_kept at a p = if_kept w p f g scope old new (at p) k l x (a p)

-- the bases of the device of an interface are those of the device of that name
pub bases_named : (w : World) (p : Place) (fs : Functions) (scope : ℕ) (lists : List PlaceWays) (seat : Seat) (b : Bases) → Some seat ≡ seat_at w p → AreBases w fs scope lists seat.device b → AreBasesOf w fs scope lists p.device b
bases_named w p fs scope lists seat b e a d q =
    let t : Some seat.device ≡ Some d = device_of w p seat e ∙ sym q in
    let s : seat.device ≡ d = cc in
    subst (λ x. AreBases w fs scope lists x b) s a

-- ---- a position that is put
by_put : (b : Bool) (o before : Option ℕ) (i : ℕ) → put_position b o before ≡ Some i → (before ≡ Some i) ⊎ ((b ≡ true) × (o ≡ Some i))
by_put false o before i e = inl e
by_put true None before i e = inl e
by_put true (Some j) before i e = inr (refl, e)

lost_none : (b : Bool) (o before : Option ℕ) → put_position b o before ≡ None → before ≡ None
lost_none false o before e = e
lost_none true None before e = e
lost_none true (Some j) before e = absurd cc

put_none : (b : Bool) (o before : Option ℕ) → b ≡ true → put_position b o before ≡ None → o ≡ None
put_none true None before t e = refl
put_none true (Some j) before t e = absurd cc
put_none false o before t e = absurd (true≢false (sym t))

same_itself : (n : ℕ) → nat_eq n n ≡ true
same_itself n =
    elim (eqb_tells n n) [
      | inl p ↦ p.0
      | inr p ↦ absurd (p.1 refl)
    ]

pub place_itself : (p : Place) → same_place p p ≡ true
place_itself p = ap (λ b. b && nat_eq p.interface p.interface) (same_itself p.device) ∙ same_itself p.interface

module _ (q : Place) (o : Option ℕ) (old new : Place → Option ℕ) (s : IsPut q o old new) where
  pub put_from : (p : Place) (i : ℕ) → new p ≡ Some i → (old p ≡ Some i) ⊎ ((q ≡ p) × (o ≡ Some i))
  put_from p i e = elim (by_put (same_place q p) o (old p) i (sym (s p) ∙ e)) [ inl y ↦ inl y | inr y ↦ inr (one_place q p y.0, y.1) ]

  pub put_loses : LosesNone old new
  put_loses p e = lost_none (same_place q p) o (old p) (sym (s p) ∙ e)

  pub put_there : new q ≡ None → o ≡ None
  put_there e = put_none (same_place q q) o (old q) (place_itself q) (sym (s q) ∙ e)

some_by : (P : ℕ → Type 0) (o : Option ℕ) → ((i : ℕ) → o ≡ Some i → P i) → IfSome o P
some_by P None f = tt
some_by P (Some i) f = f i refl

some_at : (P : ℕ → Type 0) (o : Option ℕ) (i : ℕ) → o ≡ Some i → IfSome o P → P i
some_at P o i e a = subst (λ x. IfSome x P) e a

module _ (w : World) (fs : Functions) (scope : ℕ) (lists : List PlaceWays) where
  pub put_right : (q : Place) (o : Option ℕ) (old new : Place → Option ℕ) → IsPut q o old new → IsPosition w fs scope lists q o → AreRight w fs scope lists old → AreRight w fs scope lists new
  put_right q o old new s a r p =
      some_by (HasWays w fs scope lists p) (new p) (λ i e. elim (put_from q o old new s p i e) [
        | inl y ↦ some_at (HasWays w fs scope lists p) (old p) i y (r p)
        | inr y ↦ subst (λ z. HasWays w fs scope lists z i) y.0 (subst (λ x. IsPosition w fs scope lists q x) y.1 a)
      ])

  pub put_done : (q : Place) (o : Option ℕ) (old new : Place → Option ℕ) → IsPut q o old new → IsPosition w fs scope lists q o → new q ≡ None → DropsAll w q
  put_done q o old new s a e = subst (λ x. IsPosition w fs scope lists q x) (put_there q o old new s e) a

  -- positions that were known are right
  pub taken_right : (name : ℕ) (numbers names : List ℕ) (known old new : Place → Option ℕ) → Contains names name → AreTaken w fs scope lists names known → TakesPositions name numbers known old new → AreRight w fs scope lists old → AreRight w fs scope lists new
  taken_right name numbers names known old new c a t r p =
      some_by (HasWays w fs scope lists p) (new p) (λ i e. elim (t.from p i e) [
        | inl y ↦ some_at (HasWays w fs scope lists p) (old p) i y (r p)
        | inr y ↦ subst (λ x. IsPosition w fs scope lists p x) y.1 (a p (subst (Contains names) (sym y.0) c))
      ])

  pub taken_done : (name : ℕ) (numbers names : List ℕ) (known old new : Place → Option ℕ) → Contains names name → AreTaken w fs scope lists names known → TakesPositions name numbers known old new → AreDone w new (IsNumbered name numbers)
  taken_done name numbers names known old new c a t p n e = subst (λ x. IsPosition w fs scope lists p x) (t.done p n e) (a p (subst (Contains names) (sym n.0) c))

-- ---- one number more
number_more : (name : ℕ) (xs : List ℕ) (i n : ℕ) (p : Place) → i < length xs → n ≡ get_or xs i n → IsNumbered name (take (i + 1) xs) p → IsNumbered name (take i xs) p ⊎ (record { device = name; interface = n } ≡ p)
number_more name xs i n p l e c =
    let taken : take (i + 1) xs ≡ take i xs ++ n ∷ [] = take_more xs i n l ∙ ap (λ z. take i xs ++ z ∷ []) (sym e) in
    elim (Contains-push_cases (take i xs) n p.interface (subst (λ ys. Contains ys p.interface) taken c.1)) [
      | inl m ↦ inl (c.0, m)
      | inr m ↦ inr (whole p c.0 m)
    ]
  where
    whole : (p : Place) → p.device ≡ name → n ≡ p.interface → record { device = name; interface = n } ≡ p
    whole p d m = λ i. record { device = sym d i; interface = m i }

no_number : (name : ℕ) (p : Place) → IsNumbered name [] p → ⊥
no_number name p c = in_none p.interface c.1

pub none_done : (w : World) (name : ℕ) (at : Place → Option ℕ) → AreDone w at (IsNumbered name [])
none_done w name at p c e = absurd (no_number name p c)

pub done_more : (w : World) (name : ℕ) (xs : List ℕ) (i n : ℕ) (old new : Place → Option ℕ) → i < length xs → n ≡ get_or xs i n → LosesNone old new → (new (record { device = name; interface = n }) ≡ None → DropsAll w (record { device = name; interface = n })) → AreDone w old (IsNumbered name (take i xs)) → AreDone w new (IsNumbered name (take (i + 1) xs))
done_more w name xs i n old new l t loses one d p c e =
    elim (number_more name xs i n p l t c) [
      | inl m ↦ d p m (loses p e)
      | inr m ↦ subst (λ z. DropsAll w z) m (one (ap new m ∙ e))
    ]

pub takes_none : (name : ℕ) (known at : Place → Option ℕ) → TakesPositions name [] known at at
takes_none name known at = record { from = λ p i e. inl e; done = λ p c e. absurd (no_number name p c); kept = λ p e. e }

pub takes_more : (name : ℕ) (xs : List ℕ) (i n : ℕ) (known old mid new : Place → Option ℕ) → i < length xs → n ≡ get_or xs i n → IsPut (record { device = name; interface = n }) (known (record { device = name; interface = n })) mid new → TakesPositions name (take i xs) known old mid → TakesPositions name (take (i + 1) xs) known old new
takes_more name xs i n known old mid new l t s a =
    let q : Place = record { device = name; interface = n } in
    record {
      from = λ p j e. elim (put_from q (known q) mid new s p j e) [
        | inl y ↦ a.from p j y
        | inr y ↦ inr (sym (ap (λ (z : Place). z.device) y.0), ap known (sym y.0) ∙ y.1)
      ];
      done = λ p c e. elim (number_more name xs i n p l t c) [
        | inl m ↦ a.done p m (put_loses q (known q) mid new s p e)
        | inr m ↦ ap known (sym m) ∙ put_there q (known q) mid new s (ap new m ∙ e)
      ];
      kept = λ p e. a.kept p (put_loses q (known q) mid new s p e);
    }

-- ---- one device more
pub devices_none : (w : World) (at : Place → Option ℕ) → AreDone w at (IsPlaceIn [])
devices_none w at p c e = absurd (in_none c.device c.among)

pub devices_done : (w : World) (xs : List NetDevice) (i : ℕ) (d : NetDevice) (old new : Place → Option ℕ) → i < length xs → d ≡ get_or xs i d → LosesNone old new → AreDone w new (IsNumbered d.name d.numbers) → AreDone w old (IsPlaceIn (take i xs)) → AreDone w new (IsPlaceIn (take (i + 1) xs))
devices_done w xs i d old new l t loses one a p c e =
    let taken : take (i + 1) xs ≡ take i xs ++ d ∷ [] = take_more xs i d l ∙ ap (λ z. take i xs ++ z ∷ []) (sym t) in
    elim (Contains-push_cases (take i xs) d c.device (subst (λ ys. Contains ys c.device) taken c.among)) [
      | inl m ↦ a p (record { device = c.device; among = m; named = c.named; numbered = c.numbered }) (loses p e)
      | inr m ↦ one p (sym (ap (λ (x : NetDevice). x.name) m ∙ c.named), subst (λ (x : NetDevice). Contains x.numbers p.interface) (sym m) c.numbered) e
    ]

pub right_none : (w : World) (fs : Functions) (scope : ℕ) (lists : List PlaceWays) (at : Place → Option ℕ) → ((p : Place) → at p ≡ None) → AreRight w fs scope lists at
right_none w fs scope lists at e p = subst (λ o. IfSome o (HasWays w fs scope lists p)) (sym (e p)) tt
