-- What a replaced device touches: its own places, and those of devices on lans where it answers otherwise. Everywhere else the
-- moves are as before.
use Rattle.std.proofs.Common.{ℕ, ◌≡◌, ◌<◌, ◌&&◌, ◌==◌, inl, inr, if◌then◌else◌, cond, Bool, true, false, List, [], ◌∷◌, Option, Some, None, find, position, refl, ap, sym, ◌∙◌, subst, arith}
use Rattle.std.specs.Prelude.{Contains, option_and_then}
use Rattle.std.specs.List.{list_any}
use Rattle.std.proofs.lemmas.Bool.{cases_Bool}
use Rattle.std.proofs.lemmas.Bool.Decides.{eqb_tells, nat_tests}
use Rattle.hdr_bits.specs.declared.header.Header.{Header}
use Rattle.hdr_bits.specs.Lists.{Extends}
use Rattle.cube_diagram.specs.Functions.{Functions, Keeps, count_of}
use Rattle.like_devices.proofs.LikeLemmas.{like}
use Rattle.link_sends.specs.Sending.{SendAlike}
use Rattle.link_sends.proofs.FirstPlaceLemmas.{one_place}
use Rattle.net_types.specs.declared.network.Links.{Links}
use Rattle.net_types.specs.declared.network.NetDevice.{NetDevice}
use Rattle.net_types.specs.declared.network.Place.{Place}
use Rattle.net_types.specs.declared.network.Segment.{Segment}
use Rattle.net_types.specs.Moves.{moves, moves_at, send, send_lan, send_p2p}
use Rattle.net_types.specs.World.{World, Seat, seat_at, seat_numbered, seat_passes, has_live, has_silent, segment_of, same_place, is_other, answers, is_silent}
use Rattle.net_types.proofs.Members.{here, there, from_any, to_any}
use Rattle.place_ways.specs.Places.{ArePositions, IsPosition}
use Rattle.place_ways.proofs.PlaceLemmas.{absent, numbered_there, position_like, positions_kept}
use Rattle.set_walk.specs.declared.net.PlaceWays.{PlaceWays}
use Rattle.live_network.specs.Clearing.{Clears}
use Rattle.live_network.specs.Putting.{IsSeatAmong, PutsNamed}
use Rattle.live_network.specs.Replaced.{IsReplaced}
use Rattle.live_network.specs.Shown.{EndsAnswerAlike}
use Rattle.live_network.specs.Touched.{AreTouched}

pub found_in : {A : Type 0} (p : A → Bool) (xs : List A) (x : A) → find p xs ≡ Some x → Contains xs x × (p x ≡ true)
found_in p [] x e = absurd cc
found_in p (y ∷ ys) x e = by (found_in p ys x) (p y) refl e
  where
    by : (find p ys ≡ Some x → Contains ys x × (p x ≡ true)) → (b : Bool) → p y ≡ b → (if b then Some y else find p ys) ≡ Some x → Contains (y ∷ ys) x × (p x ≡ true)
    by rest true t s = (let q : y ≡ x = cc in (subst (Contains (y ∷ ys)) q (here y ys), ap p (sym q) ∙ t))
    by rest false t s = (let r = rest s in (there y x ys r.0, r.1))

find_same : (f g : Place → Bool) (xs : List Place) → ((q : Place) → Contains xs q → f q ≡ g q) → find f xs ≡ find g xs
find_same f g [] e = refl
find_same f g (z ∷ zs) e =
    let rest = find_same f g zs (λ q c. e q (there z q zs c)) in
    λ i. cond (e z (here z zs) i) (Some z) (rest i)

pub same_name : (n m : ℕ) → (n == m) ≡ true → n ≡ m
same_name n m t = grind (arith, nat_tests, t)

pub itself : (n : ℕ) → (n == n) ≡ true
itself n = elim (eqb_tells n n) [ inl p ↦ p.0 | inr p ↦ absurd (p.1 refl) ]

module _ (v w : World) (x y : NetDevice) (rep : IsReplaced v w x y) where
  -- ---- what stands at a place
  seat_before : (p : Place) → p.device ≡ x.name → seat_at v p ≡ seat_numbered x p.interface
  seat_before p e = ap (λ n. option_and_then (λ d. seat_numbered d p.interface) (find (λ d. d.name == n) v.network.devices)) e ∙ ap (option_and_then (λ d. seat_numbered d p.interface)) rep.before

  seat_after : (p : Place) → p.device ≡ y.name → seat_at w p ≡ seat_numbered y p.interface
  seat_after p e = ap (λ n. option_and_then (λ d. seat_numbered d p.interface) (find (λ d. d.name == n) w.network.devices)) e ∙ ap (option_and_then (λ d. seat_numbered d p.interface)) rep.after

  seat_other : (p : Place) → (p.device ≡ y.name → ⊥) → seat_at v p ≡ seat_at w p
  seat_other p n = ap (option_and_then (λ d. seat_numbered d p.interface)) (rep.others p.device n)

  -- ---- what is sent over a segment on whose ends the device answers alike
  live_end : (ends : List Place) → EndsAnswerAlike x y ends → (a : ℕ) (q : Place) → Contains ends q → seat_passes (has_live a) (seat_at v q) ≡ seat_passes (has_live a) (seat_at w q)
  live_end ends al a q c =
      elim (eqb_tells q.device y.name) [
        | inl e ↦ ap (seat_passes (has_live a)) (seat_before q (e.1 ∙ sym rep.name)) ∙ ((al q c e.1).live a ∙ ap (seat_passes (has_live a)) (sym (seat_after q e.1)))
        | inr e ↦ ap (seat_passes (has_live a)) (seat_other q e.1)
      ]

  silent_end : (ends : List Place) → EndsAnswerAlike x y ends → (a : ℕ) (q : Place) → Contains ends q → seat_passes (has_silent a) (seat_at v q) ≡ seat_passes (has_silent a) (seat_at w q)
  silent_end ends al a q c =
      elim (eqb_tells q.device y.name) [
        | inl e ↦ ap (seat_passes (has_silent a)) (seat_before q (e.1 ∙ sym rep.name)) ∙ ((al q c e.1).silent a ∙ ap (seat_passes (has_silent a)) (sym (seat_after q e.1)))
        | inr e ↦ ap (seat_passes (has_silent a)) (seat_other q e.1)
      ]

  send_end : (e : Place) (h : Header) (a : ℕ) (s : Segment) → (s.lan ≡ true → EndsAnswerAlike x y s.ends) → send v e a h (Some s) ≡ send w e a h (Some s)
  send_end e h a s al = by s.lan refl
    where
      by : (b : Bool) → s.lan ≡ b → (if b then send_lan e h (find (answers v a e) s.ends) (find (is_silent v a e) s.ends) else send_p2p e h (find (is_other e) s.ends)) ≡ (if b then send_lan e h (find (answers w a e) s.ends) (find (is_silent w a e) s.ends) else send_p2p e h (find (is_other e) s.ends))
      by false t = refl
      by true t =
          let one = find_same (answers v a e) (answers w a e) s.ends (λ q c. ap (λ b. is_other e q && b) (live_end s.ends (al t) a q c)) in
          let two = find_same (is_silent v a e) (is_silent w a e) s.ends (λ q c. ap (λ b. is_other e q && b) (silent_end s.ends (al t) a q c)) in
          λ i. send_lan e h (one i) (two i)

  -- ---- a device that isn't touched
  module _ (names : List ℕ) (touched : AreTouched x y w.links.segments names) where
    sends_alike : (e : Place) → (Contains names e.device → ⊥) → SendAlike v w e
    sends_alike e n h a = ap (send v e a h) (ap (λ (l : Links). find (λ s. list_any (same_place e) s.ends) l.segments) rep.links) ∙ by (segment_of w e) refl
      where
        by : (o : Option Segment) → segment_of w e ≡ o → send v e a h o ≡ send w e a h o
        by None q = refl
        by (Some s) q =
            let f = found_in (λ (z : Segment). list_any (same_place e) z.ends) w.links.segments s q in
            let r = from_any (same_place e) s.ends f.1 in
            let end : Contains s.ends e = subst (Contains s.ends) (sym (one_place e r.0 r.2)) r.1 in
            send_end e h a s (λ t. elim (touched s f.0 t) [ inl m ↦ m | inr m ↦ absurd (n (m e end)) ])

    untouched : (p : Place) (h : Header) → (Contains names p.device → ⊥) → (p.device ≡ y.name → ⊥) → moves v p h ≡ moves w p h
    untouched p h n o = by (find (λ d. d.name == p.device) v.network.devices) refl
      where
        by : (q : Option NetDevice) → find (λ d. d.name == p.device) v.network.devices ≡ q → moves v p h ≡ moves w p h
        by None e =
            let one : seat_at v p ≡ None = ap (option_and_then (λ d. seat_numbered d p.interface)) e in
            ap (λ s. moves_at v s h) one ∙ ap (λ s. moves_at w s h) (sym (sym (seat_other p o) ∙ one))
        by (Some d) e =
            let same : d.name ≡ p.device = same_name d.name p.device (found_in (λ z. z.name == p.device) v.network.devices d e).1 in
            like v w p.device d d (sym e) (sym (sym (rep.others p.device o) ∙ e)) refl (λ m c. sends_alike (record { device = d.name; interface = m }) (λ k. n (subst (Contains names) same k))) p refl h

    module _ (own : Contains names y.name) (f g : Functions) (scope : ℕ) (old new : List PlaceWays) (before clear after : Place → Option ℕ) (k : Keeps f g) (l : scope < count_of f) (more : Extends old new)
        (a : ArePositions v f scope old before) (cl : Clears x.name x.numbers before clear) (put : PutsNamed w g scope new names clear after) where
      as_it_was : (p : Place) → ((h : Header) → moves v p h ≡ moves w p h) → after p ≡ before p → IsPosition w g scope new p (after p)
      as_it_was p same e = subst (IsPosition w g scope new p) (sym e) (position_like v p w g scope new (before p) same (positions_kept v f g scope old new k l more before a p))

      nothing : (p : Place) → seat_at w p ≡ None → after p ≡ None → IsPosition w g scope new p (after p)
      nothing p e q = subst (IsPosition w g scope new p) (sym q) (absent w p (sym e))

      both_absent : (p : Place) → seat_at v p ≡ None → seat_at w p ≡ None → (h : Header) → moves v p h ≡ moves w p h
      both_absent p e q h = ap (λ s. moves_at v s h) e ∙ ap (λ s. moves_at w s h) (sym q)

      gone : (p : Place) (seat : Seat) → seat_at w p ≡ None → seat_at v p ≡ Some seat → clear p ≡ None
      gone p seat e s =
          elim (eqb_tells p.device y.name) [
            | inl m ↦ (
                let d : p.device ≡ x.name = m.1 ∙ sym rep.name in
                cl.gone p (d, numbered_there x p.interface seat (position (λ n. n == p.interface) x.numbers) refl (sym (sym (seat_before p d) ∙ s))))
            | inr m ↦ (let q : Some seat ≡ None = sym s ∙ (seat_other p m.1 ∙ e) in absurd cc)
          ]

      at_absent : (p : Place) (o : Option Seat) → seat_at v p ≡ o → seat_at w p ≡ None → after p ≡ clear p → IsPosition w g scope new p (after p)
      at_absent p None s e q = elim (cl.each p) [ inl n ↦ nothing p e (q ∙ n) | inr b ↦ as_it_was p (both_absent p s e) (q ∙ b) ]
      at_absent p (Some seat) s e q = nothing p e (q ∙ gone p seat e s)

      no_seat : (p : Place) → seat_at w p ≡ None → IsSeatAmong w names p → ⊥
      no_seat p e m = let q : Some m.seat ≡ None = sym m.there ∙ e in absurd cc

      at_named : (p : Place) → Contains names p.device → (o : Option Seat) → seat_at w p ≡ o → IsPosition w g scope new p (after p)
      at_named p c (Some seat) e = put.own p (record { named = c; seat = seat; there = e })
      at_named p c None e = at_absent p (seat_at v p) refl e (put.others p (no_seat p e))

      pub positions_replaced : ArePositions w g scope new after
      positions_replaced p =
          elim (cases_Bool (list_any (λ n. n == p.device) names)) [
            | inl t ↦ (let r = from_any (λ n. n == p.device) names t in at_named p (subst (Contains names) (same_name r.0 p.device r.2) r.1) (seat_at w p) refl)
            | inr t ↦ (
                let out : Contains names p.device → ⊥ = λ c. (let both : false ≡ true = sym t ∙ to_any (λ n. n == p.device) names p.device c (itself p.device) in absurd cc) in
                let other : p.device ≡ y.name → ⊥ = λ e. out (subst (Contains names) (sym e) own) in
                as_it_was p (λ h. untouched p h out other) (put.others p (λ m. out m.named) ∙ cl.others p (λ e. other (e ∙ rep.name))))
          ]
