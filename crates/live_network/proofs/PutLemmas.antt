-- Devices whose ways are put, name by name.
use Rattle.std.proofs.Common.{ℕ, ◌≡◌, ◌<◌, ◌+◌, ◌++◌, ◌==◌, inl, inr, true, arith, List, [], ◌∷◌, take, length, get_or, Option, Some, None, find, position, refl, ap, sym, ◌∙◌, subst}
use Rattle.std.specs.Prelude.{Contains, option_and_then}
use Rattle.std.proofs.lemmas.Bool.Decides.{eqb_tells, nat_tests}
use Rattle.std.proofs.lemmas.List.{take_more}
use Rattle.std.proofs.lemmas.List.Elements.{Contains-push_cases, Contains-push, Contains-append_left}
use Rattle.hdr_bits.specs.declared.header.Header.{Header}
use Rattle.hdr_bits.specs.Lists.{Extends}
use Rattle.cube_diagram.specs.Functions.{Functions, Keeps, count_of}
use Rattle.like_devices.proofs.LikeLemmas.{placed_in}
use Rattle.link_sends.specs.Sending.{SendAlike}
use Rattle.net_types.specs.declared.network.NetDevice.{NetDevice}
use Rattle.net_types.specs.declared.network.Place.{Place}
use Rattle.net_types.specs.Moves.{moves_at}
use Rattle.net_types.specs.World.{World, Seat, seat_at, seat_numbered}
use Rattle.net_types.proofs.Members.{in_none}
use Rattle.place_ways.specs.Devices.{PutsDevice, place_of}
use Rattle.place_ways.specs.Places.{HasSeatWays, IsPosition}
use Rattle.place_ways.proofs.BaseLemmas as base
use Rattle.place_ways.proofs.PlaceLemmas.{position_kept, seat_ways}
use Rattle.set_walk.specs.declared.net.PlaceWays.{PlaceWays}
use Rattle.live_network.specs.Putting.{IsSeatAmong, PutsFound, PutsNamed}
use Rattle.live_network.proofs.AlikeLemmas.{at_same}
use Rattle.live_network.proofs.ReplaceLemmas.{found_in}

pub puts_none : (w : World) (fs : Functions) (scope : ℕ) (lists : List PlaceWays) (at : Place → Option ℕ) → PutsNamed w fs scope lists [] at at
puts_none w fs scope lists at = record { own = λ p m. absurd (in_none p.device m.named); others = λ p n. refl }

named : (d : ℕ) (x : NetDevice) → (x.name == d) ≡ true → x.name ≡ d
named d x t = grind (arith, nat_tests, t)

module _ (u w : World) (f g : Functions) (scope : ℕ) (old new : List PlaceWays) (k : Keeps f g) (l : scope < count_of f) (more : Extends old new)
    (names : List ℕ) (i n : ℕ) (within : i < length names) (is : n ≡ get_or names i n) (a b c : Place → Option ℕ) (sends : (e : Place) → e.device ≡ n → SendAlike u w e) (before : PutsNamed w f scope old (take i names) a b) where
  taken : take (i + 1) names ≡ take i names ++ n ∷ []
  taken = take_more names i n within ∙ ap (λ z. take i names ++ z ∷ []) (sym is)

  among : (m : ℕ) → Contains (take i names) m → Contains (take (i + 1) names) m
  among m t = subst (λ ys. Contains ys m) (sym taken) (Contains-append_left (take i names) (n ∷ []) m t)

  last : (m : ℕ) → m ≡ n → Contains (take (i + 1) names) m
  last m e = subst (Contains (take (i + 1) names)) (sym e) (subst (λ ys. Contains ys n) (sym taken) (Contains-push (take i names) n))

  earlier : (p : Place) → IsSeatAmong w (take i names) p → IsSeatAmong w (take (i + 1) names) p
  earlier p m = record { named = among p.device m.named; seat = m.seat; there = m.there }

  -- a place that was put before, and isn't put now
  put_before : (p : Place) → IsSeatAmong w (take i names) p → c p ≡ b p → IsPosition w g scope new p (c p)
  put_before p m e = subst (IsPosition w g scope new p) (sym e) (position_kept w p f g scope old new (b p) k l more (before.own p m))

  as_before : (p : Place) → (IsSeatAmong w (take (i + 1) names) p → ⊥) → c p ≡ b p → c p ≡ a p
  as_before p o e = e ∙ before.others p (λ m. o (earlier p m))

  -- no device has the name
  module _ (none : find (λ d. d.name == n) w.network.devices ≡ None) (same : (p : Place) → c p ≡ b p) where
    no_seat : (p : Place) (seat : Seat) → n ≡ p.device → seat_at w p ≡ Some seat → ⊥
    no_seat p seat e t =
        let q : seat_at w p ≡ None = ap (λ m. option_and_then (λ d. seat_numbered d p.interface) (find (λ d. d.name == m) w.network.devices)) (sym e) ∙ ap (option_and_then (λ d. seat_numbered d p.interface)) none in
        let r : Some seat ≡ None = sym t ∙ q in
        absurd cc

    without : PutsNamed w g scope new (take (i + 1) names) a c
    without =
        record {
          own = λ p m. elim (Contains-push_cases (take i names) n p.device (subst (λ ys. Contains ys p.device) taken m.named)) [
            | inl t ↦ put_before p (record { named = t; seat = m.seat; there = m.there }) (same p)
            | inr t ↦ absurd (no_seat p m.seat t m.there)
          ];
          others = λ p o. as_before p o (same p);
        }

  -- a device has it
  module _ (d : NetDevice) (some : find (λ d. d.name == n) w.network.devices ≡ Some d) (put : PutsDevice u g scope new d b c) where
    d_named : d.name ≡ n
    d_named = named n d (found_in (λ x. x.name == n) w.network.devices d some).1

    seat_of_device : (p : Place) → p.device ≡ n → seat_at w p ≡ seat_numbered d p.interface
    seat_of_device p e = ap (λ m. option_and_then (λ x. seat_numbered x p.interface) (find (λ x. x.name == m) w.network.devices)) e ∙ ap (option_and_then (λ x. seat_numbered x p.interface)) some

    place_is : (p : Place) → p.device ≡ n → p ≡ place_of d p.interface
    place_is p e = λ j. record { device = (e ∙ sym d_named) j; interface = p.interface }

    put_now : (p : Place) (seat : Seat) → p.device ≡ n → seat_at w p ≡ Some seat → IsPosition w g scope new p (c p)
    put_now p seat e t =
        let s : seat_numbered d p.interface ≡ Some seat = sym (seat_of_device p e) ∙ t in
        let at = put.seats p.interface seat s in
        let of_device : seat.device ≡ d = (placed_in d (position (λ m. m == p.interface) d.numbers) seat (sym s)).0 in
        let alike : (m : ℕ) → Contains d.numbers m → SendAlike u w (record { device = d.name; interface = m }) = λ m c. sends (record { device = d.name; interface = m }) d_named in
        let own : HasSeatWays w g scope new seat at.position = record { ways = at.ways.ways; there = at.ways.there; given = at.ways.given; moves = base.moves_same g scope (moves_at u (Some seat)) (moves_at w (Some seat)) at.ways.ways.ways.items (λ h z j. at_same u w d alike seat h of_device) at.ways.moves } in
        let there : c p ≡ Some at.position = ap c (place_is p e) ∙ at.is in
        subst (λ o. IsPosition w g scope new p o) (sym there) (seat_ways w p w g scope new seat at.position (sym t) refl own)

    kept_now : (p : Place) → ((seat : Seat) → p.device ≡ n → seat_at w p ≡ Some seat → ⊥) → c p ≡ b p
    kept_now p o = put.others p (λ m seat q s.
        let e : p.device ≡ n = ap (λ (z : Place). z.device) q ∙ d_named in
        let r : m ≡ p.interface = sym (ap (λ (z : Place). z.interface) q) in
        o seat e (seat_of_device p e ∙ subst (λ j. seat_numbered d j ≡ Some seat) r s))

    with_device : PutsNamed w g scope new (take (i + 1) names) a c
    with_device =
        record {
          own = λ p m. elim (eqb_tells p.device n) [
            | inl t ↦ put_now p m.seat t.1 m.there
            | inr t ↦ (elim (Contains-push_cases (take i names) n p.device (subst (λ ys. Contains ys p.device) taken m.named)) [
              | inl r ↦ put_before p (record { named = r; seat = m.seat; there = m.there }) (kept_now p (λ seat e s. t.1 e))
              | inr r ↦ absurd (t.1 (sym r))
            ])
          ];
          others = λ p o. as_before p o (kept_now p (λ seat e s. o (record { named = last p.device e; seat = seat; there = s })));
        }

  found_more : (o : Option NetDevice) → find (λ d. d.name == n) w.network.devices ≡ o → PutsFound u g scope new o b c → PutsNamed w g scope new (take (i + 1) names) a c
  found_more None e put = without e put
  found_more (Some d) e put = with_device d e put

  pub puts_more : PutsFound u g scope new (find (λ d. d.name == n) w.network.devices) b c → PutsNamed w g scope new (take (i + 1) names) a c
  puts_more put = found_more (find (λ d. d.name == n) w.network.devices) refl put
