-- What is kept of the edited network, as its device is put anew.
use Rattle.std.proofs.Common.{ℕ, ◌≡◌, ◌==◌, List, Option, Some, None, find, position, refl, ap, sym, ◌∙◌, subst}
use Rattle.std.specs.Prelude.{Contains, option_and_then}
use Rattle.hdr_bits.specs.declared.header.Header.{Header}
use Rattle.cube_diagram.specs.Functions.{Functions}
use Rattle.net_types.specs.declared.network.NetDevice.{NetDevice}
use Rattle.net_types.specs.declared.network.Place.{Place}
use Rattle.net_types.specs.Moves.{moves, moves_at}
use Rattle.net_types.specs.World.{World, Seat, seat_at, seat_numbered}
use Rattle.place_ways.specs.Places.{ArePlaceWays}
use Rattle.place_ways.proofs.PlaceLemmas.{numbered_there}
use Rattle.set_walk.specs.declared.net.PlaceWays.{PlaceWays}
use Rattle.incr_review.specs.Edited.{is_named}
use Rattle.incr_review.specs.Live.{AreWaysGiven}

pub ways_given : (w : World) (f : Functions) (scope : ℕ) (lists : List PlaceWays) (at : Place → Option ℕ) → ArePlaceWays w f scope lists at → AreWaysGiven f lists at
ways_given w f scope lists at a p v e = (a.right p v e).each

-- ---- at a number that the device doesn't have
seat_of_named : (w : World) (d : ℕ) (x : NetDevice) (p : Place) → find (is_named d) w.network.devices ≡ Some x → p.device ≡ d → seat_at w p ≡ seat_numbered x p.interface
seat_of_named w d x p e q = ap (λ n. option_and_then (λ z. seat_numbered z p.interface) (find (λ z. z.name == n) w.network.devices)) q ∙ ap (option_and_then (λ z. seat_numbered z p.interface)) e

no_seat : (x : NetDevice) (n : ℕ) (o : Option Seat) → seat_numbered x n ≡ o → (Contains x.numbers n → ⊥) → seat_numbered x n ≡ None
no_seat x n None e none = e
no_seat x n (Some seat) e none = absurd (none (numbered_there x n seat (position (λ k. k == n) x.numbers) refl (sym e)))

pub others_alike : (w0 w1 : World) (d : ℕ) (x y : NetDevice) → find (is_named d) w0.network.devices ≡ Some x → find (is_named d) w1.network.devices ≡ Some y → x.numbers ≡ y.numbers → (p : Place) (h : Header) → p.device ≡ d → (Contains x.numbers p.interface → ⊥) → moves w0 p h ≡ moves w1 p h
others_alike w0 w1 d x y there here same p h e none =
    let one : seat_at w0 p ≡ None = seat_of_named w0 d x p there e ∙ no_seat x p.interface (seat_numbered x p.interface) refl none in
    let other : seat_at w1 p ≡ None = seat_of_named w1 d y p here e ∙ no_seat y p.interface (seat_numbered y p.interface) refl (λ c. none (subst (λ ns. Contains ns p.interface) (sym same) c)) in
    ap (λ o. moves_at w0 o h) one ∙ ap (λ o. moves_at w1 o h) (sym other)
