-- The loops of a graph are the loops of the headers of its region.
use Rattle.std.proofs.Common.{◌≡◌, ◌↔◌, ℕ, zero, suc, inl, inr, ◌⊎◌, ◌+◌, ◌-◌, ◌<◌, ◌≤◌, List, [], ◌∷◌, Option, Some, None, map, length, take, slice_get, slice_index_or, true, false, ◌==◌, refl, sym, ap, subst, ◌∙◌, arith}
use Rattle.std.proofs.Math.Nat.{eq-or-lt_of_le}
use Rattle.std.specs.Prelude.{flat_map, Contains, IsTrue, nat_eq}
use Rattle.std.specs.Option.{unwrap_or}
use Rattle.std.specs.List.{list_any}
use Rattle.std.proofs.lemmas.Bool.Decides.{nat_tests, Decides-eqb}
use Rattle.std.proofs.lemmas.List.{take_more}
use Rattle.std.proofs.lemmas.List.Elements.{Contains-append_cases, Contains-get_or}
use Rattle.std.proofs.lemmas.Option.{slice_get_cases}
use Rattle.hdr_bits.specs.declared.header.Header.{Header}
use Rattle.hdr_bits.specs.declared.cube.Cube.{Cube}
use Rattle.hdr_bits.specs.HeaderBits.{number, IsHeader}
use Rattle.hdr_bits.specs.CubeBits.{IsIn}
use Rattle.net_types.specs.declared.network.Move.TheVariants.{Go}
use Rattle.net_types.specs.declared.network.Place.{Place}
use Rattle.net_types.specs.declared.network.State.{State}
use Rattle.net_types.specs.World.{World}
use Rattle.net_types.specs.Moves.{moves}
use Rattle.net_types.specs.Walks.{IsWalk, state_at}
use Rattle.net_types.specs.Questions.{Loops}
use Rattle.net_types.proofs.Members.{here, in_one, in_none, from_any, to_any, in_map, to_map, in_flat_map, to_flat_map, in_filter_map, to_filter_map}
use Rattle.net_types.proofs.Walking.{walk_from_states, states_from_walk}
use Rattle.net_types.proofs.QuestionLaws.{joined, walks_on}
use Rattle.cube_alg.specs.Stamps.{applied}
use Rattle.transfer_rel.specs.declared.moves.StampMove.{StampMove}
use Rattle.transfer_rel.specs.declared.moves.StampMove.TheVariants as stamped
use Rattle.transfer_rel.specs.CubeMoves.{SameSet, move_of}
use Rattle.region_walk.specs.declared.spot.Spot.{Spot}
use Rattle.region_walk.specs.declared.visit.Visit.{Visit}
use Rattle.region_walk.specs.declared.level.Level.{Level}
use Rattle.region_walk.specs.Lists.{items_at, AreNumbersOf}
use Rattle.region_walk.specs.Spots.{stamp_of, state_of, FieldFits, StampFits, IsSpot, spot_at, next_spot}
use Rattle.region_walk.specs.Visits.{Serves, IsVisit, spot_of, next_spots, next_numbers, states_at, visits_at, IsGraph}
use Rattle.region_walk.specs.Returns.{numbers_after, ComesBack, SomeComesBack, HasLoop}
use Rattle.region_walk.proofs.SetLemmas.{same_trans, same_flat, same_filter_map, all_at}
use Rattle.region_walk.proofs.NumberLemmas.{all_got, item_of, number_of}
use Rattle.region_walk.proofs.Turns.{level_all}

-- ---- two spots are two states of each header

same_field : (x y : ℕ) (o m : Option ℕ) → FieldFits x y o → FieldFits x y m → unwrap_or o y ≡ unwrap_or m y → o ≡ m
same_field x y None None f k e = refl
same_field x y None (Some v) f k e =
    let a = k.0 in
    let same : (v == x) ≡ true = grind (arith, nat_tests, a, e) in
    let both : false ≡ true = sym k.1 ∙ same in
    cc
same_field x y (Some u) None f k e =
    let a = f.0 in
    let same : (u == x) ≡ true = grind (arith, nat_tests, a, e) in
    let both : false ≡ true = sym f.1 ∙ same in
    cc
same_field x y (Some u) (Some v) f k e = ap Some e

same_spot_of : (g h : Header) (s t : Spot) → StampFits g h (stamp_of s) → StampFits g h (stamp_of t) → state_of h s ≡ state_of h t → s ≡ t
same_spot_of g h s t f k e =
    let src = same_field g.src h.src s.src t.src f.src k.src (ap (λ (u : State). u.header.src) e) in
    let dst = same_field g.dst h.dst s.dst t.dst f.dst k.dst (ap (λ (u : State). u.header.dst) e) in
    let sport = same_field g.sport h.sport s.sport t.sport f.sport k.sport (ap (λ (u : State). u.header.sport) e) in
    let dport = same_field g.dport h.dport s.dport t.dport f.dport k.dport (ap (λ (u : State). u.header.dport) e) in
    λ i. record { place = ap (λ (u : State). u.place) e i; src = src i; dst = dst i; sport = sport i; dport = dport i }

-- ---- where a move goes on to

go_to : (h : Header) (one : StampMove) (s : Spot) → next_spot one ≡ Some s → move_of h one ≡ Go s.place (applied (stamp_of s) h)
go_to h stamped.Drop s e = cc
go_to h (stamped.Local p) s e = cc
go_to h stamped.Lost s e = cc
go_to h (stamped.Exit p t) s e = cc
go_to h (stamped.Go p t) s e = let k : spot_at p t ≡ s = cc in ap (λ (x : Spot). Go x.place (applied (stamp_of x) h)) k

spot_to : (h : Header) (one : StampMove) (u : State) → move_of h one ≡ Go u.place u.header → (s : Spot) × (next_spot one ≡ Some s) × (state_of h s ≡ u)
spot_to h stamped.Drop u e = cc
spot_to h (stamped.Local p) u e = cc
spot_to h stamped.Lost u e = cc
spot_to h (stamped.Exit p t) u e = cc
spot_to h (stamped.Go p t) u e =
    let a : p ≡ u.place = cc in
    let b : applied t h ≡ u.header = cc in
    (spot_at p t, refl, λ i. record { place = a i; header = b i })

-- ---- walks of a header of the region, by the numbers of visits

module _ (w : World) (c : Cube) (p : Place) (visits : List Visit) (levels : List Level) (g : IsGraph w c p visits levels) (h : Header) (fits : IsHeader h) (inside : IsIn c (number h)) where
  serves : (i : ℕ) (v : Visit) → slice_get visits i ≡ Some v → Serves w g.base h v
  serves i v e = (all_got (IsVisit w c g.base) visits i v g.visited.each e).serves h fits inside

  numbered : (i : ℕ) (v : Visit) → slice_get visits i ≡ Some v → AreNumbersOf g.spots v.next (next_spots v)
  numbered i v e = all_got (λ u. AreNumbersOf g.spots u.next (next_spots u)) visits i v g.visited.numbered.next e

  spot_fits : (i : ℕ) (s : Spot) → slice_get g.spots i ≡ Some s → StampFits g.base h (stamp_of s)
  spot_fits i s e = (all_got (IsSpot c g.base) g.spots i s g.visited.found e).stamp h fits inside

  -- a move from visit to visit
  made_from : (i j : ℕ) (u v : Visit) → slice_get visits i ≡ Some u → slice_get visits j ≡ Some v → Contains u.next j → Contains (moves w u.spot.place (applied (stamp_of u.spot) h)) (Go v.spot.place (applied (stamp_of v.spot) h))
  made_from i j u v a b k =
      let s = item_of g.spots u.next (next_spots u) (numbered i u a) j k in
      let same : s.0 ≡ v.spot = let e : Some s.0 ≡ Some v.spot = sym s.2 ∙ g.visited.numbered.at j v b in cc in
      let one = in_filter_map next_spot u.moves s.0 s.1 in
      let go : move_of h one.0 ≡ Go v.spot.place (applied (stamp_of v.spot) h) = go_to h one.0 s.0 one.2 ∙ ap (λ (x : Spot). Go x.place (applied (stamp_of x) h)) same in
      subst (Contains (moves w u.spot.place (applied (stamp_of u.spot) h))) go
      (((serves i u a).moves (move_of h one.0)).1 (to_map (move_of h) u.moves one.0 one.1))

  walk_from_numbers : (m i j : ℕ) (u v : Visit) → slice_get visits i ≡ Some u → slice_get visits j ≡ Some v → Contains (numbers_after visits m i) j → IsWalk w m (state_of h u.spot) (state_of h v.spot)
  walk_from_numbers zero i j u v a b k =
      let e : i ≡ j = in_one i j k in
      let same : Some u ≡ Some v = sym a ∙ ap (slice_get visits) e ∙ b in
      let equal : u ≡ v = cc in
      ap (λ (x : Visit). state_of h x.spot) equal
  walk_from_numbers (suc m) i j u v a b k =
      let f = in_flat_map next_numbers (items_at visits (numbers_after visits m i)) j k in
      let n = in_filter_map (slice_get visits) (numbers_after visits m i) f.0 f.1 in
      (state_of h f.0.spot, walk_from_numbers m i n.0 u f.0 a n.2 n.1, made_from n.0 j f.0 v n.2 b f.2)

  -- the visits of a level
  level_walk : (n : ℕ) → n < 255 → (i : ℕ) (v : Visit) → Contains (states_at levels n) i → slice_get visits i ≡ Some v → IsWalk w n (state_at p h) (state_of h v.spot)
  level_walk n l i v k a =
      walk_from_states w n (state_at p h) (state_of h v.spot)
      (((g.all.each n l).after.states h fits inside (state_of h v.spot)).1
      (to_map (state_of h) (map spot_of (visits_at visits levels n)) v.spot
      (to_map spot_of (visits_at visits levels n) v (to_filter_map (slice_get visits) (states_at levels n) v i k a))))

  walk_level : (n : ℕ) → n < 255 → (s : State) → IsWalk w n (state_at p h) s → (i : ℕ) × (v : Visit) × Contains (states_at levels n) i × (slice_get visits i ≡ Some v) × (state_of h v.spot ≡ s)
  walk_level n l s a =
      let x = in_map (state_of h) (map spot_of (visits_at visits levels n)) s (((g.all.each n l).after.states h fits inside s).0 (states_from_walk w n (state_at p h) s a)) in
      let v = in_map spot_of (visits_at visits levels n) x.0 x.1 in
      let i = in_filter_map (slice_get visits) (states_at levels n) v.0 v.1 in
      (i.0, v.0, i.1, i.2, ap (state_of h) v.2 ∙ x.2)

  -- two visits of one state are one
  one_number : (i j : ℕ) (s t : Spot) → slice_get g.spots i ≡ Some s → slice_get g.spots j ≡ Some t → state_of h s ≡ state_of h t → i ≡ j
  one_number i j s t a b e =
      let same = same_spot_of g.base h s t (spot_fits i s a) (spot_fits j t b) e in
      g.visited.once.one i j t (a ∙ ap Some same) b

  numbers_from_walk : (m n i : ℕ) (u : Visit) → slice_get visits i ≡ Some u → IsWalk w n (state_at p h) (state_of h u.spot) → m + n < 255 → (s : State) → IsWalk w m (state_of h u.spot) s → (j : ℕ) × (v : Visit) × Contains (numbers_after visits m i) j × (slice_get visits j ≡ Some v) × (state_of h v.spot ≡ s)
  numbers_from_walk zero n i u a before l s e = (i, u, here i [], a, e)
  numbers_from_walk (suc m) n i u a before l s (x, walk, made) =
      let r = numbers_from_walk m n i u a before (omega (arith, l)) x walk in
      let v = r.1 in
      let on : Contains (moves w v.spot.place (applied (stamp_of v.spot) h)) (Go s.place s.header) = subst (λ (y : State). Contains (moves w y.place y.header) (Go s.place s.header)) (sym r.4) made in
      let one = in_map (move_of h) v.moves (Go s.place s.header) (((serves r.0 v r.3).moves (Go s.place s.header)).0 on) in
      let t = spot_to h one.0 s one.2 in
      let j = number_of g.spots v.next (next_spots v) (numbered r.0 v r.3) t.0 (to_filter_map next_spot v.moves t.0 one.0 one.1 t.1) in
      let all : IsWalk w (suc m + n) (state_at p h) s = joined w n (suc m) (state_at p h) (state_of h u.spot) s before (x, walk, made) in
      let k = walk_level (suc m + n) l s all in
      let same : k.0 ≡ j.0 = one_number k.0 j.0 k.1.spot t.0 (g.visited.numbered.at k.0 k.1 k.3) j.2 (k.4 ∙ sym t.2) in (
        j.0,
        k.1,
        to_flat_map next_numbers (items_at visits (numbers_after visits m i)) j.0 v (to_filter_map (slice_get visits) (numbers_after visits m i) v r.0 r.2 r.3) j.1,
        subst (λ q. slice_get visits q ≡ Some k.1) same k.3,
        k.4,
      )

  -- ---- loops

  loop_from_numbers : (t : ℕ) → t ≤ 255 → HasLoop visits levels (t - 1) → Loops w t p h
  loop_from_numbers t l f =
      let n = f.before in
      let i = f.back.state in
      let m = f.back.back.around in
      let one = f.back.back.moves in
      let far = f.back.back.within in
      let near = f.within in
      elim (slice_get_cases visits i).1 [
        | inl v ↦ record {
          before = n;
          around = m;
          moves = one;
          within = omega (arith, near, far, one);
          state = state_of h v.0.spot;
          comes = level_walk n (omega (arith, near, l)) i v.0 f.back.among v.2;
          again = walk_from_numbers m i i v.0 v.0 v.2 v.2 f.back.back.again;
        }
        | inr b ↦
            let within = all_at (λ (k : ℕ). k < length visits) (states_at levels n) i (level_all (λ (k : ℕ). k < length visits) levels n g.there) f.back.among in
            absurd (omega (arith, within, b.0))
      ]

  numbers_from_loop : (t : ℕ) → t ≤ 255 → Loops w t p h → HasLoop visits levels (t - 1)
  numbers_from_loop t l f =
      let n = f.before in
      let m = f.around in
      let some = f.moves in
      let all = f.within in
      let v = walk_level n (omega (arith, l, all)) f.state f.comes in
      let back = numbers_from_walk m n v.0 v.1 v.3 (subst (IsWalk w n (state_at p h)) (sym v.4) f.comes) (omega (arith, l, all)) f.state (subst (λ s. IsWalk w m s f.state) (sym v.4) f.again) in
      let same : back.0 ≡ v.0 = one_number back.0 v.0 back.1.spot v.1.spot (g.visited.numbered.at back.0 back.1 back.3) (g.visited.numbered.at v.0 v.1 v.3) (back.4 ∙ sym v.4) in
      record {
        before = n;
        within = omega (arith, some, all);
        back = record {
          state = v.0;
          among = v.2;
          back = record { around = m; moves = some; within = omega (arith, all); again = subst (Contains (numbers_after visits m v.0)) same back.2 };
        };
      }

  pub loops_are : (t : ℕ) → t ≤ 255 → HasLoop visits levels (t - 1) ↔ Loops w t p h
  loops_are t l = (loop_from_numbers t l, numbers_from_loop t l)

  -- what loops has walks of each number of moves
  pub none_at_end : (t n : ℕ) → n < 255 → states_at levels n ≡ [] → Loops w t p h → ⊥
  none_at_end t n l e f =
      let s = walks_on w t p h f n in
      let v = walk_level n l s.0 s.1 in
      in_none v.0 (subst (λ ns. Contains ns v.0) e v.2)

-- ---- the search

at_most_or_above : (m n : ℕ) → (m ≤ n) ⊎ (n < m)
at_most_or_above zero n = inl (omega arith)
at_most_or_above (suc m) zero = inr (omega arith)
at_most_or_above (suc m) (suc n) = elim (at_most_or_above m n) [
  | inl l ↦ inl (omega (arith, l))
  | inr g ↦ inr (omega (arith, g))
]

-- a number that is looked for in a list
there : (xs : List ℕ) (x : ℕ) → list_any (λ y. nat_eq y x) xs ≡ true → Contains xs x
there xs x e =
    let f = from_any (λ y. nat_eq y x) xs e in
    subst (Contains xs) ((Decides-eqb f.0 x).0 f.2) f.1

not_there : (xs : List ℕ) (x : ℕ) → list_any (λ y. nat_eq y x) xs ≡ false → Contains xs x → ⊥
not_there xs x e c = let both : false ≡ true = sym e ∙ to_any (λ y. nat_eq y x) xs x c ((Decides-eqb x x).1 refl) in cc

abbrev pub NoneBack : List Visit → ℕ → ℕ → Type 0
NoneBack visits n state = (m : ℕ) → 1 ≤ m → m ≤ n → Contains (numbers_after visits m state) state → ⊥

module _ (visits : List Visit) (state : ℕ) where
  -- once no walk goes on, none does later
  none_after : (n d : ℕ) → ((x : ℕ) → Contains (numbers_after visits n state) x → ⊥) → (x : ℕ) → Contains (numbers_after visits (d + n) state) x → ⊥
  none_after n zero none x k = none x (subst (λ i. Contains (numbers_after visits i state) x) (let e : 0 + n ≡ n = omega arith in e) k)
  none_after n (suc d) none x k =
      let e : suc d + n ≡ suc (d + n) = omega arith in
      let f = in_flat_map next_numbers (items_at visits (numbers_after visits (d + n) state)) x (subst (λ i. Contains (numbers_after visits i state) x) e k) in
      let i = in_filter_map (slice_get visits) (numbers_after visits (d + n) state) f.0 f.1 in
      none_after n d none i.0 i.1

  pub none_found : (n limit : ℕ) → limit ≤ n → NoneBack visits n state → IsTrue false ↔ ComesBack visits limit state
  none_found n limit l none = (
    λ e. absurd (let both : false ≡ true = e in cc),
    λ b. let w = b.within in absurd (none b.around b.moves (omega (arith, w, l)) b.again),
  )

  module _ (n : ℕ) (states next : List ℕ) (same : SameSet states (numbers_after visits n state)) (none : NoneBack visits n state)
      (more : SameSet next (flat_map next_numbers (items_at visits states))) where
    after_more : SameSet next (numbers_after visits (n + 1) state)
    after_more =
        let all : SameSet next (numbers_after visits (suc n) state) =
        same_trans next (flat_map next_numbers (items_at visits states)) (numbers_after visits (suc n) state) more
        (same_flat next_numbers (items_at visits states) (items_at visits (numbers_after visits n state))
        (same_filter_map (slice_get visits) states (numbers_after visits n state) same)) in
        let e : suc n ≡ n + 1 = omega arith in
        subst (λ i. SameSet next (numbers_after visits i state)) e all

    none_more : list_any (λ y. nat_eq y state) next ≡ false → NoneBack visits (n + 1) state
    none_more e m some far k = elim (eq-or-lt_of_le far) [
      | inl f ↦ not_there next state e ((after_more state).1 (subst (λ i. Contains (numbers_after visits i state) state) f k))
      | inr l ↦ none m some (omega (arith, l)) k
    ]

    pub turn : list_any (λ y. nat_eq y state) next ≡ false → SameSet next (numbers_after visits (n + 1) state) × NoneBack visits (n + 1) state
    turn e = (after_more, none_more e)

    pub found : (limit : ℕ) → n < limit → list_any (λ y. nat_eq y state) next ≡ true → IsTrue true ↔ ComesBack visits limit state
    found limit l e = (
      λ t. record { around = n + 1; moves = omega arith; within = omega (arith, l); again = (after_more state).0 (there next state e) },
      λ b. refl,
    )

    pub none_left : (limit : ℕ) → list_any (λ y. nat_eq y state) next ≡ false → next ≡ [] → IsTrue false ↔ ComesBack visits limit state
    none_left limit e gone = (
      λ t. absurd (let both : false ≡ true = t in cc),
      λ b.
          let m = b.around in
          let empty : (x : ℕ) → Contains (numbers_after visits (n + 1) state) x → ⊥ = λ x k. in_none x (subst (λ l. Contains l x) gone ((after_more x).1 k)) in
          elim (at_most_or_above m (n + 1)) [
            | inl l ↦ absurd (none_more e m b.moves l b.again)
            | inr g ↦
                let f : m ≡ (m - (n + 1)) + (n + 1) = omega (arith, g) in
                absurd (none_after (n + 1) (m - (n + 1)) empty state (subst (λ i. Contains (numbers_after visits i state) state) f b.again))
          ],
    )

-- ---- one of several

module _ (visits : List Visit) (limit : ℕ) (states : List ℕ) (k : ℕ) (l : k < length states) where
  pub some_found : ComesBack visits limit (slice_index_or states k 0) → IsTrue true ↔ SomeComesBack visits limit states
  some_found b = (λ t. record { state = slice_index_or states k 0; among = Contains-get_or states k 0 l; back = b }, λ t. refl)

  pub some_more : (SomeComesBack visits limit (take k states) → ⊥) → (ComesBack visits limit (slice_index_or states k 0) → ⊥) → SomeComesBack visits limit (take (k + 1) states) → ⊥
  some_more before here a =
      let d = slice_index_or states k 0 in
      elim (Contains-append_cases (take k states) (d ∷ []) a.state (subst (λ ns. Contains ns a.state) (take_more states k 0 l) a.among)) [
        | inl c ↦ before (record { state = a.state; among = c; back = a.back })
        | inr c ↦ here (subst (ComesBack visits limit) (sym (in_one d a.state c)) a.back)
      ]

pub some_none : (visits : List Visit) (limit : ℕ) → SomeComesBack visits limit [] → ⊥
some_none visits limit a = in_none a.state a.among

-- ---- at some level

module _ (visits : List Visit) (levels : List Level) (limit : ℕ) where
  abbrev pub NoneBelow : ℕ → Type 0
  NoneBelow n = (k : ℕ) → k < n → SomeComesBack visits (limit - k) (states_at levels k) → ⊥

  pub level_found : (n : ℕ) → n < limit → SomeComesBack visits (limit - n) (states_at levels n) → IsTrue true ↔ HasLoop visits levels limit
  level_found n l b = (λ t. record { before = n; within = l; back = b }, λ t. refl)

  pub level_more : (n : ℕ) → NoneBelow n → (SomeComesBack visits (limit - n) (states_at levels n) → ⊥) → NoneBelow (n + 1)
  level_more n below here k l b = elim (eq-or-lt_of_le (let u : k ≤ n = omega (arith, l) in u)) [
    | inl e ↦ here (subst (λ i. SomeComesBack visits (limit - i) (states_at levels i)) e b)
    | inr m ↦ below k m b
  ]

  pub level_none : (n : ℕ) → limit ≤ n → NoneBelow n → IsTrue false ↔ HasLoop visits levels limit
  level_none n l below = (
    λ e. absurd (let both : false ≡ true = e in cc),
    λ b. let w = b.within in absurd (below b.before (omega (arith, w, l)) b.back),
  )
