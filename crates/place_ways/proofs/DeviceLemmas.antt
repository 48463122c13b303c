-- The ways of the interfaces of one device, number by number.
use Rattle.std.proofs.Common.{ℕ, ◌≡◌, ◌<◌, ◌+◌, ◌++◌, inl, inr, Bool, true, false, List, [], ◌∷◌, take, length, get_or, slice_get, Option, Some, None, refl, ap, sym, ◌∙◌, subst, position, ◌==◌, true≢false}
use Rattle.std.specs.Prelude.{Contains}
use Rattle.std.proofs.lemmas.List.{take_more}
use Rattle.std.proofs.lemmas.List.Elements.{Contains-push_cases}
use Rattle.hdr_bits.specs.Lists.{Extends}
use Rattle.hdr_bits.proofs.ListLemmas.{extends_get}
use Rattle.cube_diagram.specs.Functions.{Functions, Keeps, count_of}
use Rattle.link_sends.proofs.FirstPlaceLemmas.{one_place}
use Rattle.net_forms.specs.declared.forms.DeviceForm.{DeviceForm}
use Rattle.net_forms.specs.declared.forms.Tables.{Tables}
use Rattle.net_forms.specs.Forms.{IsDeviceForm, IsFormOfSeat}
use Rattle.net_forms.proofs.FormLemmas.{device_kept, seat_form}
use Rattle.hdr_bits.proofs.ListLemmas.{extends_none}
use Rattle.net_types.specs.declared.network.NetDevice.{NetDevice}
use Rattle.net_types.specs.declared.network.Place.{Place}
use Rattle.net_types.specs.Moves.{coming_in, moves_at}
use Rattle.net_types.specs.World.{World, Seat, same_place, seat_numbered}
use Rattle.net_types.proofs.Members.{in_none}
use Rattle.net_view.specs.Borrowed.{seat_of}
use Rattle.set_walk.specs.declared.net.PlaceWays.{PlaceWays}
use Rattle.set_walk.specs.Sets.{InSet}
use Rattle.set_walk.proofs.SetLemmas.{kept_set, kept_below}
use Rattle.place_ways.specs.declared.device_ways.WiredDevice.{WiredDevice}
use Rattle.place_ways.specs.declared.seat.WaySeat.{WaySeat}
use Rattle.place_ways.specs.Devices.{HasSeatPosition, HaveSeatPositions, IsSeatIn, IsSeatPosition, IsWiredDevice, KeepsOthers, PutsDevice, PutsSeat, place_of}
use Rattle.place_ways.specs.Places.{HasSeatWays, IsPut, put_position}
use Rattle.place_ways.specs.Seats.{IsWaySeat}
use Rattle.place_ways.proofs.AddLemmas.{given_kept, moves_kept}
use Rattle.place_ways.proofs.PlaceLemmas.{numbered_there, place_itself}

-- ---- a compiled device
pub wired_kept : (f g : Functions) (x : WiredDevice) → Keeps f g → IsWiredDevice f x → IsWiredDevice g x
wired_kept f g x k a =
    record {
      form = device_kept (record { diagrams = f; fates = x.fates.now }) (record { diagrams = g; fates = x.fates.now }) x.device.now x.form.now (record { diagrams = k; fates = extends_none x.fates.now }) a.form;
      scope = kept_below f g x.scope k a.scope;
      comes = λ seat h e v i. (kept_set f g x.scope (coming_in seat h) k a.scope).1 (a.comes seat h e v ((kept_set f g x.scope h k a.scope).0 i));
    }

pub seat_in_wired : (fs : Functions) (x : WiredDevice) (s : WaySeat) → IsWiredDevice fs x → IsSeatIn x s → IsWaySeat fs s
seat_in_wired fs x s a b =
    let one : IsDeviceForm fs s.fates.now x.device.now x.form.now = subst (λ t. IsDeviceForm fs t x.device.now x.form.now) (sym b.fates) a.form in
    let two : IsDeviceForm fs s.fates.now s.seat.device.now x.form.now = subst (λ t. IsDeviceForm fs s.fates.now t x.form.now) (sym b.device) one in
    let whole : IsDeviceForm fs s.fates.now s.seat.device.now s.device.now = subst (λ t. IsDeviceForm fs s.fates.now s.seat.device.now t) (sym b.form) two in
    let half : IsFormOfSeat s.seat.device.now x.form.now (seat_of s.seat) s.form = subst (λ t. IsFormOfSeat t x.form.now (seat_of s.seat) s.form) (sym b.device) b.formed in
    let formed : IsFormOfSeat s.seat.device.now s.device.now (seat_of s.seat) s.form = subst (λ t. IsFormOfSeat s.seat.device.now t (seat_of s.seat) s.form) (sym b.form) half in
    record {
      device = whole;
      form = seat_form fs s.fates.now s.seat.device.now s.device.now (seat_of s.seat) s.form whole formed;
      scope = subst (λ n. n < count_of fs) (sym b.scope) a.scope;
      comes = λ h v i. subst (λ n. InSet fs n (coming_in (seat_of s.seat) h)) (sym b.scope) (a.comes (seat_of s.seat) h b.device v (subst (λ n. InSet fs n h) b.scope i));
    }

-- ---- a position, as tables and lists grow
module _ (w : World) (f g : Functions) (scope : ℕ) (old new : List PlaceWays) (k : Keeps f g) (l : scope < count_of f) (x : Extends old new) where
  seat_ways_kept : (seat : Seat) (i : ℕ) → HasSeatWays w f scope old seat i → HasSeatWays w g scope new seat i
  seat_ways_kept seat i a =
      record {
        ways = a.ways;
        there = extends_get old new i a.ways x a.there;
        given = given_kept f g a.ways.ways.items k a.given;
        moves = moves_kept f g scope (moves_at w (Some seat)) a.ways.ways.items k l a.given a.moves;
      }

  pub seat_position_kept : (seat : Seat) (o : Option ℕ) → HasSeatPosition w f scope old seat o → HasSeatPosition w g scope new seat o
  seat_position_kept seat o a = record { position = a.position; is = a.is; ways = seat_ways_kept seat a.position a.ways }

-- ---- what is put for one number
by_put : (b : Bool) (o before : Option ℕ) (P : Option ℕ → Type 0) → (b ≡ true → P (put_position true o before)) → (b ≡ false → P before) → P (put_position b o before)
by_put true o before P hit miss = hit refl
by_put false o before P hit miss = miss refl

some_put : (o before : Option ℕ) (i : ℕ) → o ≡ Some i → put_position true o before ≡ Some i
some_put None before i e = absurd cc
some_put (Some j) before i e = e

none_put : (before : Option ℕ) → put_position true None before ≡ before
none_put before = refl

module _ (w : World) (fs : Functions) (scope : ℕ) (lists : List PlaceWays) (d : NetDevice) (n : ℕ) (old new : Place → Option ℕ) (a : PutsSeat w fs scope lists d n old new) where
  own_by : (o : Option Seat) (seat : Seat) → o ≡ Some seat → IsSeatPosition w fs scope lists o a.at → HasSeatPosition w fs scope lists seat a.at
  own_by None seat e s = absurd cc
  own_by (Some other) seat e s = let t : other ≡ seat = cc in subst (λ x. HasSeatPosition w fs scope lists x a.at) t s

  own : (m : ℕ) (seat : Seat) → n ≡ m → seat_numbered d m ≡ Some seat → HasSeatPosition w fs scope lists seat a.at
  own m seat t e = own_by (seat_numbered d n) seat (ap (seat_numbered d) t ∙ e) a.is

  -- the interface of a number has its ways, if it had them or the number is this one
  pub put_positions : (m : ℕ) (seat : Seat) → seat_numbered d m ≡ Some seat → (same_place (place_of d n) (place_of d m) ≡ false → HasSeatPosition w fs scope lists seat (old (place_of d m))) → HasSeatPosition w fs scope lists seat (new (place_of d m))
  put_positions m seat e before =
      subst (HasSeatPosition w fs scope lists seat) (sym (a.put (place_of d m))) (by_put (same_place (place_of d n) (place_of d m)) a.at (old (place_of d m)) (HasSeatPosition w fs scope lists seat) (λ t.
      let o = own m seat (ap (λ (x : Place). x.interface) (one_place (place_of d n) (place_of d m) t)) e in
      record { position = o.position; is = some_put a.at (old (place_of d m)) o.position o.is; ways = o.ways }) before)

  absent_by : (o : Option Seat) → seat_numbered d n ≡ o → ((seat : Seat) → seat_numbered d n ≡ Some seat → ⊥) → IsSeatPosition w fs scope lists o a.at → a.at ≡ None
  absent_by None q none s = s
  absent_by (Some seat) q none s = absurd (none seat q)

  pub put_others : KeepsOthers d old new
  put_others p none =
      a.put p ∙ by_put (same_place (place_of d n) p) a.at (old p) (λ x. x ≡ old p) (λ t.
      let there = one_place (place_of d n) p t in
      let e = absent_by (seat_numbered d n) refl (λ seat s. none n seat (sym there) s) a.is in
      ap (λ o. put_position true o (old p)) e ∙ none_put (old p)) (λ t. refl)

-- ---- one number more
pub no_numbers : (w : World) (fs : Functions) (scope : ℕ) (lists : List PlaceWays) (d : NetDevice) (at : Place → Option ℕ) → HaveSeatPositions w fs scope lists d (Contains []) at
no_numbers w fs scope lists d at n seat c e = absurd (in_none n c)

pub positions_more : (w : World) (f g : Functions) (scope : ℕ) (lists more : List PlaceWays) (d : NetDevice) (xs : List ℕ) (i n : ℕ) (old new : Place → Option ℕ) → Keeps f g → scope < count_of f → Extends lists more → i < length xs → n ≡ get_or xs i n → PutsSeat w g scope more d n old new → HaveSeatPositions w f scope lists d (Contains (take i xs)) old → HaveSeatPositions w g scope more d (Contains (take (i + 1) xs)) new
positions_more w f g scope lists more d xs i n old new k l x within is a before m seat c e =
    let taken : take (i + 1) xs ≡ take i xs ++ n ∷ [] = take_more xs i n within ∙ ap (λ z. take i xs ++ z ∷ []) (sym is) in
    put_positions w g scope more d n old new a m seat e (λ t. elim (Contains-push_cases (take i xs) n m (subst (λ ys. Contains ys m) taken c)) [
      | inl y ↦ seat_position_kept w f g scope lists more k l x seat (old (place_of d m)) (before m seat y e)
      | inr y ↦ absurd (true≢false (sym (subst (λ j. same_place (place_of d n) (place_of d j) ≡ true) y (place_itself (place_of d n))) ∙ t))
    ])

pub others_same : (d : NetDevice) (at : Place → Option ℕ) → KeepsOthers d at at
others_same d at p none = refl

pub others_then : (d : NetDevice) (a b c : Place → Option ℕ) → KeepsOthers d a b → KeepsOthers d b c → KeepsOthers d a c
others_then d a b c x y p none = y p none ∙ x p none

pub device_put : (w : World) (fs : Functions) (scope : ℕ) (lists : List PlaceWays) (d : NetDevice) (old new : Place → Option ℕ) → HaveSeatPositions w fs scope lists d (Contains d.numbers) new → KeepsOthers d old new → PutsDevice w fs scope lists d old new
device_put w fs scope lists d old new a b =
    record { seats = λ n seat e. a n seat (numbered_there d n seat (position (λ k. k == n) d.numbers) refl (sym e)) e; others = b }
