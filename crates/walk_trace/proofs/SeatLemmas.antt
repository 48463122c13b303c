-- What stands at a place belongs to the first device of its name.
use Rattle.std.proofs.Common.{◌≡◌, ℕ, Bool, true, false, cond, ◌==◌, List, [], ◌∷◌, Option, Some, None, refl, sym, ap, ◌∙◌}
use Rattle.std.specs.Prelude.{IfSome, find, option_and_then, option_map, position, slice_get}
use Rattle.std.proofs.lemmas.Bool.Decides.{Decides-eqb}
use Rattle.net_types.specs.declared.config.Interface.{Interface}
use Rattle.net_types.specs.declared.network.NetDevice.{NetDevice}
use Rattle.net_types.specs.declared.network.Place.{Place}
use Rattle.net_types.specs.World.{World, Seat, seat_at, seat_in, seat_numbered}
use Rattle.net_view.specs.declared.seats.SeatRef.{SeatRef}
use Rattle.net_view.specs.Borrowed.{seat_of}
use Rattle.walk_trace.specs.Kept.{IsFirst, IsSeated}
use Rattle.walk_trace.proofs.KeptLemmas.{some_is}

-- what is found passes the test
found_passes : {A : Type 0} (p : A → Bool) (xs : List A) (x : A) → find p xs ≡ Some x → p x ≡ true
found_passes p [] x e = absurd cc
found_passes p (y ∷ ys) x e = by (p y) refl (found_passes p ys x) e
  where
    by : (b : Bool) → p y ≡ b → (find p ys ≡ Some x → p x ≡ true) → cond b (Some y) (find p ys) ≡ Some x → p x ≡ true
    by true h rest f = ap p (sym (some_is y x f)) ∙ h
    by false h rest f = rest f

module _ (d : NetDevice) (s : Seat) where
  device_in : (i : ℕ) → seat_in d i ≡ Some s → s.device ≡ d
  device_in i = by (slice_get d.config.interfaces i)
    where
      with_number : (f : Interface) (n : Option ℕ) → option_map (λ k. record { place = record { device = d.name; interface = k }; device = d; interface = f }) n ≡ Some s → s.device ≡ d
      with_number f None e = absurd cc
      with_number f (Some k) e = sym (ap (λ (x : Seat). x.device) (some_is (record { place = record { device = d.name; interface = k }; device = d; interface = f }) s e))

      by : (f : Option Interface) → option_and_then (λ g. option_map (λ k. record { place = record { device = d.name; interface = k }; device = d; interface = g }) (slice_get d.numbers i)) f ≡ Some s → s.device ≡ d
      by None e = absurd cc
      by (Some f) e = with_number f (slice_get d.numbers i) e

  device_numbered : (number : ℕ) → seat_numbered d number ≡ Some s → s.device ≡ d
  device_numbered number = by (position (λ n. n == number) d.numbers)
    where
      by : (i : Option ℕ) → option_and_then (seat_in d) i ≡ Some s → s.device ≡ d
      by None e = absurd cc
      by (Some i) e = device_in i e

pub seated : (w : World) (p : Place) (s : Seat) → seat_at w p ≡ Some s → IsSeated w s
seated w p s = by (find (λ d. d.name == p.device) w.network.devices) refl
  where
    by : (o : Option NetDevice) → find (λ d. d.name == p.device) w.network.devices ≡ o → option_and_then (λ d. seat_numbered d p.interface) o ≡ Some s → IsSeated w s
    by None f e = absurd cc
    by (Some d) f e =
        let is : s.device ≡ d = device_numbered d s p.interface e in
        let name : d.name ≡ p.device = (Decides-eqb d.name p.device).0 (found_passes (λ d. d.name == p.device) w.network.devices d f) in
        ap (λ (n : ℕ). find (λ x. x.name == n) w.network.devices) (ap (λ (x : NetDevice). x.name) is ∙ name) ∙ f ∙ ap Some (sym is)

-- so does what is found there
pub seat_found : (w : World) (p : Place) (r : Option SeatRef) → option_map seat_of r ≡ seat_at w p → IfSome r (λ s. IsSeated w (seat_of s))
seat_found w p None e = tt
seat_found w p (Some s) e = seated w p (seat_of s) (sym e)
