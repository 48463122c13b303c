-- The devices that the headers of a region visit.
use Rattle.std.proofs.Common.{◌≡◌, ◌↔◌, ℕ, zero, suc, inl, inr, ◌⊎◌, ◌+◌, ◌<◌, ◌≤◌, ◌==◌, true, List, [], ◌∷◌, ◌++◌, Some, map, length, take, slice_get, slice_index_or, refl, sym, ap, subst, ◌∙◌, arith}
use Rattle.std.specs.Prelude.{Contains, IsTrue}
use Rattle.std.proofs.lemmas.Bool.Decides.{nat_tests}
use Rattle.std.proofs.lemmas.List.{take_more}
use Rattle.std.proofs.lemmas.List.Elements.{Contains-append_cases, Contains-get_or, filter_map-append}
use Rattle.std.proofs.lemmas.Option.{slice_get_within, slice_get-get_or}
use Rattle.hdr_bits.specs.declared.header.Header.{Header}
use Rattle.hdr_bits.specs.declared.cube.Cube.{Cube}
use Rattle.hdr_bits.specs.HeaderBits.{number, IsHeader}
use Rattle.hdr_bits.specs.CubeBits.{IsIn}
use Rattle.net_types.specs.declared.network.Place.{Place}
use Rattle.net_types.specs.declared.network.State.{State}
use Rattle.net_types.specs.World.{World}
use Rattle.net_types.specs.Walks.{state_at}
use Rattle.net_types.specs.Visits as visiting
use Rattle.net_types.proofs.Members.{here, in_one, in_none, in_map, to_map, in_filter_map, to_filter_map}
use Rattle.net_types.proofs.Walking.{walk_from_states, states_from_walk}
use Rattle.region_walk.specs.declared.level.Level.{Level}
use Rattle.region_walk.specs.declared.spot.Spot.{Spot}
use Rattle.region_walk.specs.declared.visit.Visit.{Visit}
use Rattle.region_walk.specs.Lists.{items_at}
use Rattle.region_walk.specs.Spots.{state_of}
use Rattle.region_walk.specs.Visits.{IsGraph, spot_of, visits_at}
use Rattle.region_walk.specs.Devices.{IsAmong, IsMet}

-- ---- the visit with a number
pub none_behind : (d : ℕ) (vs : List Visit) (n : ℕ) → length vs ≤ n → IsAmong d (items_at vs (n ∷ [])) → ⊥
none_behind d vs n l a =
    let i = in_filter_map (slice_get vs) (n ∷ []) a.visit a.among in
    let one = in_one n i.0 i.1 in
    let w = slice_get_within vs i.0 a.visit i.2 in
    omega (arith, l, one, w)

pub among_one : (d : ℕ) (vs : List Visit) (n : ℕ) (z : Visit) → n < length vs → IsTrue ((slice_index_or vs n z).spot.place.device == d) ↔ IsAmong d (items_at vs (n ∷ []))
among_one d vs n z l =
    let v = slice_index_or vs n z in
    let at : slice_get vs n ≡ Some v = slice_get-get_or vs n z l in (
      λ t. record { visit = v; among = to_filter_map (slice_get vs) (n ∷ []) v n (here n []) at; there = grind (arith, nat_tests, t) },
      λ a.
          let i = in_filter_map (slice_get vs) (n ∷ []) a.visit a.among in
          let both : Some v ≡ Some a.visit = sym at ∙ ap (slice_get vs) (in_one n i.0 i.1) ∙ i.2 in
          let same : v ≡ a.visit = cc in
          let there : v.spot.place.device ≡ d = ap (λ (x : Visit). x.spot.place.device) same ∙ a.there in
          grind (arith, nat_tests, there),
    )

-- ---- the visits with some numbers
pub none_among : (d : ℕ) → IsAmong d [] → ⊥
none_among d a = in_none a.visit a.among

module _ (d : ℕ) (vs : List Visit) (ns : List ℕ) (k : ℕ) (l : k < length ns) where
  pub among_found : IsAmong d (items_at vs (slice_index_or ns k 0 ∷ [])) → IsTrue true ↔ IsAmong d (items_at vs ns)
  among_found a =
      let n = slice_index_or ns k 0 in
      let i = in_filter_map (slice_get vs) (n ∷ []) a.visit a.among in
      let among : Contains ns i.0 = subst (Contains ns) (in_one n i.0 i.1) (Contains-get_or ns k 0 l) in
      (λ t. record { visit = a.visit; among = to_filter_map (slice_get vs) ns a.visit i.0 among i.2; there = a.there }, λ b. refl)

  pub among_more : (IsAmong d (items_at vs (take k ns)) → ⊥) → (IsAmong d (items_at vs (slice_index_or ns k 0 ∷ [])) → ⊥) → IsAmong d (items_at vs (take (k + 1) ns)) → ⊥
  among_more before now a =
      let n = slice_index_or ns k 0 in
      let split : items_at vs (take (k + 1) ns) ≡ items_at vs (take k ns) ++ items_at vs (n ∷ []) = ap (items_at vs) (take_more ns k 0 l) ∙ filter_map-append (slice_get vs) (take k ns) (n ∷ []) in
      elim (Contains-append_cases (items_at vs (take k ns)) (items_at vs (n ∷ [])) a.visit (subst (λ xs. Contains xs a.visit) split a.among)) [
        | inl c ↦ before (record { visit = a.visit; among = c; there = a.there })
        | inr c ↦ now (record { visit = a.visit; among = c; there = a.there })
      ]

-- ---- the levels
abbrev pub NoneMet : List Visit → List Level → ℕ → ℕ → Type 0
NoneMet vs levels d n = (k : ℕ) → k < n → IsAmong d (visits_at vs levels k) → ⊥

before_or_at : (k n : ℕ) → k < n + 1 → (k < n) ⊎ (n ≡ k)
before_or_at zero zero l = inr (omega arith)
before_or_at zero (suc n) l = inl (omega arith)
before_or_at (suc k) zero l = absurd (omega (arith, l))
before_or_at (suc k) (suc n) l = elim (before_or_at k n (omega (arith, l))) [ inl a ↦ inl (omega (arith, a)) | inr a ↦ inr (omega (arith, a)) ]

pub none_met_more : (vs : List Visit) (levels : List Level) (d n : ℕ) → NoneMet vs levels d n → (IsAmong d (visits_at vs levels n) → ⊥) → NoneMet vs levels d (n + 1)
none_met_more vs levels d n before now k l a = elim (before_or_at k n l) [ inl x ↦ before k x a | inr x ↦ now (subst (λ m. IsAmong d (visits_at vs levels m)) (sym x) a) ]

-- ---- what is met is visited
pub met_is_visited : (w : World) (c : Cube) (p : Place) (vs : List Visit) (levels : List Level) → IsGraph w c p vs levels → (h : Header) → IsHeader h → IsIn c (number h) → (t d : ℕ) → t ≤ 255 → IsMet vs levels t d ↔ visiting.Visits w t p h d
met_is_visited w c p vs levels r h i m t d l = (
  λ a.
      let x = a.within in
      let level = r.all.each a.count (omega (arith, x, l)) in
      let spots = map spot_of (visits_at vs levels a.count) in
      let v = a.met.visit in
      let at = to_map (state_of h) spots (spot_of v) (to_map spot_of (visits_at vs levels a.count) v a.met.among) in
      record {
        count = a.count;
        within = a.within;
        state = state_of h (spot_of v);
        walk = walk_from_states w a.count (state_at p h) (state_of h (spot_of v)) ((level.after.states h i m (state_of h (spot_of v))).1 at);
        there = a.met.there;
      },
  λ b.
      let x = b.within in
      let level = r.all.each b.count (omega (arith, x, l)) in
      let spots = map spot_of (visits_at vs levels b.count) in
      let s = in_map (state_of h) spots b.state ((level.after.states h i m b.state).0 (states_from_walk w b.count (state_at p h) b.state b.walk)) in
      let v = in_map spot_of (visits_at vs levels b.count) s.0 s.1 in
      record {
        count = b.count;
        within = b.within;
        met = record { visit = v.0; among = v.1; there = ap (λ (y : Spot). y.place.device) v.2 ∙ (ap (λ (y : State). y.place.device) s.2 ∙ b.there) };
      },
)
