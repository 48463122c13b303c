-- Groups of headers that are walked again together.
use Rattle.std.proofs.Common.{ℕ, ◌≡◌, ◌<◌, ◌≤◌, ◌⊎◌, ◌↔◌, ◌==◌, ◌&&◌, inl, inr, true, false, cond, is_some, List, [], ◌∷◌, ◌++◌, Option, Some, None, IsSome, length, take, get_or, set, slice_get, ◌+◌, map, refl, ap, sym, ◌∙◌, subst, arith}
use Rattle.std.specs.Prelude.{Contains, count_by, filter}
use Rattle.std.proofs.lemmas.Bool.{cases_Bool, cases_eq, cases_lt}
use Rattle.std.proofs.lemmas.List.{get_or-set_same, get_or-set_other, length-set, map-append, take_more}
use Rattle.std.proofs.lemmas.List.Elements.{Contains-append_cases, Contains-append_left, Contains-append_right}
use Rattle.std.proofs.lemmas.List.Filters.{sum_by-filter_both}
use Rattle.std.proofs.lemmas.List.Sums.{sum_by-set, sum_by-take-le}
use Rattle.hdr_bits.specs.declared.header.Header.{Header}
use Rattle.hdr_bits.specs.HeaderBits.{number, IsHeader}
use Rattle.cube_diagram.specs.Functions.{Functions, Keeps, count_of, value_at}
use Rattle.net_types.specs.declared.network.Place.{Place}
use Rattle.net_types.specs.World.{World}
use Rattle.net_types.proofs.Members.{here, in_none, in_one, in_map, to_map}
use Rattle.set_walk.specs.Sets.{InSet, IsSetOf}
use Rattle.set_walk.proofs.SetLemmas.{kept_set, kept_below, keeps_then}
use Rattle.incr_review.specs.declared.groups.Group.{Group}
use Rattle.incr_review.specs.declared.regions.Region.{Region}
use Rattle.incr_review.specs.Parts.{has_header}
use Rattle.incr_review.specs.Regions.{stays, in_region, AreReviewed}
use Rattle.incr_review.specs.Again.{leaves, ArePlaced, WasIn, AreAgain}
use Rattle.incr_review.specs.Groups.{as_known, in_group, AreGroupsBelow, IsDisjoint, HasRegionAt, AreJoined, IsGroupOf, WidensGroup, JoinsRegion}
use Rattle.incr_review.proofs.RegionLemmas.{split_count, map_count, no_count, other_slot, at_default, region_counts_kept}
use Rattle.incr_review.proofs.WalkedLemmas.{positive}

-- ---- what was written at a place
pub in_set : {X : Type 0} (xs : List X) (i : ℕ) (y z : X) → i < length xs → Contains (set xs i y) z → (y ≡ z) ⊎ Contains xs z
in_set xs i y z l c = elim (cases_eq c.0 i) [
  | inl e ↦ (
      let a : get_or (set xs i y) i z ≡ z = subst (λ k. get_or (set xs i y) k z ≡ z) e c.2 in
      inl (sym (get_or-set_same xs i y z l) ∙ a))
  | inr n ↦ inr (c.0, subst (λ k. c.0 < k) (length-set xs i y) c.1, sym (get_or-set_other xs i c.0 y z n) ∙ c.2)
]

pub at_place : {X : Type 0} (xs : List X) (i : ℕ) (x : X) → i < length xs → slice_get xs i ≡ Some x → get_or xs i x ≡ x
at_place xs i x l e = let d = at_default xs i x l in let same : Some (get_or xs i x) ≡ Some x = sym d ∙ e in cc

-- ---- counts
true_there : (o : Option ℕ) → IsSome o → is_some o ≡ true
true_there None i = cc
true_there (Some v) i = refl

there_true : (o : Option ℕ) → is_some o ≡ true → IsSome o
there_true None i = cc
there_true (Some v) i = refl

no_value : IsSome {T = ℕ} None → ⊥
no_value e = cc

neither : (c : Option ℕ) → (IsSome c → IsSome {T = ℕ} None ⊎ IsSome {T = ℕ} None) → is_some c ≡ false
neither None i = refl
neither (Some v) i = absurd (elim (i refl) [ inl x ↦ no_value x | inr x ↦ no_value x ])

-- a was counted once, c is counted in its place: it counts b besides
wider : (a b c : Option ℕ) (n m : ℕ) → IsSome c ↔ (IsSome a ⊎ IsSome b) → m + cond (is_some a) 1 0 ≡ n + cond (is_some c) 1 0 → (IsSome a → 1 ≤ n) → n + (0 + cond (is_some b) 1 0) ≤ 1 → m ≡ n + (0 + cond (is_some b) 1 0)
wider None None c n m i e p l = let z : cond {A = ℕ} (is_some c) 1 0 ≡ 0 = ap (λ x. cond x 1 0) (neither c i.0) in omega (arith, e, z)
wider None (Some y) c n m i e p l = let z : cond {A = ℕ} (is_some c) 1 0 ≡ 1 = ap (λ x. cond x 1 0) (true_there c (i.1 (inr refl))) in omega (arith, e, z)
wider (Some x) None c n m i e p l = let z : cond {A = ℕ} (is_some c) 1 0 ≡ 1 = ap (λ x. cond x 1 0) (true_there c (i.1 (inl refl))) in omega (arith, e, z)
wider (Some x) (Some y) c n m i e p l = let q = p refl in absurd (omega (arith, q, l))

pub group_counts : (f : Functions) (s : ℕ) (h : Header) (gs : List Group) → count_by (in_region f s h) (map as_known gs) ≡ count_by (in_group f s h) gs
group_counts f s h gs = map_count (in_region f s h) (in_group f s h) as_known (λ y. refl) gs

pub known_below : (f : Functions) (gs : List Group) → AreGroupsBelow f gs → (r : Region) → Contains (map as_known gs) r → r.headers < count_of f
known_below f gs b r c = let i = in_map as_known gs r c in subst (λ (x : Region). x.headers < count_of f) i.2 (b i.0 i.1)

group_counts_kept : (f g : Functions) (s : ℕ) (h : Header) → Keeps f g → (gs : List Group) → AreGroupsBelow f gs → count_by (in_group g s h) gs ≡ count_by (in_group f s h) gs
group_counts_kept f g s h k gs b = sym (group_counts g s h gs) ∙ (region_counts_kept f g s h k (map as_known gs) (known_below f gs b) ∙ group_counts f s h gs)

-- ---- one region more
pub joined_nothing : (f : Functions) → AreJoined f [] f []
joined_nothing f =
    record {
      below = λ q c. absurd (in_none q c);
      from = λ q c. absurd (in_none q c);
      one = λ s h v. refl;
      was = λ q h c v i. absurd (in_none q c);
    }

was_more : (f : Functions) (bs : List Region) (r : Region) (h : Header) (q : Region) → WasIn f bs h q → WasIn f (bs ++ r ∷ []) h q
was_more f bs r h q o = record { region = o.region; among = Contains-append_left bs (r ∷ []) o.region o.among; inside = o.inside; slot = o.slot; old = o.old }

module _ (f e g : Functions) (bs : List Region) (r : Region) (gs : List Group)
    (kf : Keeps f e) (kg : Keeps e g) (lr : r.headers < count_of f) (before : AreJoined f bs e gs) where
  last : Contains (bs ++ r ∷ []) r
  last = Contains-append_right bs (r ∷ []) r (here r [])

  ke : Keeps f g
  ke = keeps_then f e g kf kg

  abbrev known : Group
  known = record { slot = r.slot; headers = r.headers; old = r.old }

  old_from : (q : Group) → Contains gs q → HasRegionAt (bs ++ r ∷ []) q.slot
  old_from q c = let o = before.from q c in record { region = o.region; among = Contains-append_left bs (r ∷ []) o.region o.among; slot = o.slot }

  old_was : (q : Group) (h : Header) → Contains gs q → IsHeader h → InSet g q.headers h → WasIn f (bs ++ r ∷ []) h (as_known q)
  old_was q h c v i = was_more f bs r h (as_known q) (before.was q h c v ((kept_set e g q.headers h kg (before.below q c)).0 i))

  old_count : (s : ℕ) (h : Header) → IsHeader h → count_by (in_group g s h) gs ≡ count_by (in_region f s h) bs
  old_count s h v = group_counts_kept e g s h kg gs before.below ∙ before.one s h v

  pub joined_new : AreJoined f (bs ++ r ∷ []) g (gs ++ record { slot = r.slot; headers = r.headers; old = r.old } ∷ [])
  joined_new =
      record {
        below = λ q c. elim (Contains-append_cases gs (known ∷ []) q c) [
          | inl d ↦ kept_below e g q.headers kg (before.below q d)
          | inr d ↦ subst (λ (x : Group). x.headers < count_of g) (in_one known q d) (kept_below f g r.headers ke lr)
        ];
        from = λ q c. elim (Contains-append_cases gs (known ∷ []) q c) [
          | inl d ↦ old_from q d
          | inr d ↦ record { region = r; among = last; slot = ap (λ (x : Group). x.slot) (in_one known q d) }
        ];
        one = λ s h v.
            let a = old_count s h v in
            let b : count_by (in_group g s h) (known ∷ []) ≡ count_by (in_region f s h) (r ∷ []) = ap (λ o. 0 + cond (r.slot == s && is_some o) 1 0) (ke.value r.headers lr (number h)) in
            split_count (in_group g s h) gs (known ∷ []) ∙ ((λ i. a i + b i) ∙ sym (split_count (in_region f s h) bs (r ∷ [])));
        was = λ q h c v i. elim (Contains-append_cases gs (known ∷ []) q c) [
          | inl d ↦ old_was q h d v i
          | inr d ↦ subst (λ (x : Group). WasIn f (bs ++ r ∷ []) h (as_known x)) (in_one known q d) (record {
            region = r;
            among = last;
            inside = (kept_set f g r.headers h ke lr).0 (subst (λ (x : Group). InSet g x.headers h) (sym (in_one known q d)) i);
            slot = refl;
            old = refl;
          })
        ];
      }

  module _ (news : List Group) (wide : WidensGroup e r g gs news) (once : (s : ℕ) (h : Header) → IsHeader h → count_by (in_region f s h) (bs ++ r ∷ []) ≤ 1) where
    abbrev was_group : Group
    was_group = wide.of.group

    abbrev now_group : Group
    now_group = record { slot = was_group.slot; headers = wide.headers; old = was_group.old }

    at : get_or gs wide.index was_group ≡ was_group
    at = at_place gs wide.index was_group wide.of.within wide.of.there

    among : Contains gs was_group
    among = (wide.index, wide.of.within, at)

    counted : (s : ℕ) (h : Header) → IsHeader h → count_by (in_group g s h) (set gs wide.index now_group) ≡ count_by (in_region f s h) (bs ++ r ∷ [])
    counted s h v =
        let n = count_by (in_region f s h) bs in
        let m = count_by (in_group g s h) (set gs wide.index now_group) in
        let a = value_at g was_group.headers (number h) in
        let b = value_at f r.headers (number h) in
        let c = value_at g wide.headers (number h) in
        let whole = split_count (in_region f s h) bs (r ∷ []) in
        let moved : m + cond (in_group g s h (get_or gs wide.index was_group)) 1 0 ≡ count_by (in_group g s h) gs + cond (in_group g s h now_group) 1 0 = sum_by-set (λ q. cond (in_group g s h q) 1 0) gs wide.index now_group was_group wide.of.within in
        let set_at : m + cond (in_group g s h was_group) 1 0 ≡ n + cond (in_group g s h now_group) 1 0 = subst (λ (q : Group). m + cond (in_group g s h q) 1 0 ≡ n + cond (in_group g s h now_group) 1 0) at (moved ∙ ap (λ k. k + cond (in_group g s h now_group) 1 0) (old_count s h v)) in
        elim (cases_Bool (r.slot == s)) [
          | inl y ↦ (
              let z : (was_group.slot == s) ≡ true = ap (λ k. k == s) wide.of.slot ∙ y in
              let x = wide.exact h v in
              let ka = kept_set e g was_group.headers h kg (before.below was_group among) in
              let kb = kept_set f e r.headers h kf lr in
              let iff : IsSome c ↔ (IsSome a ⊎ IsSome b) = (
                λ i. elim (x.0 i) [ inl j ↦ inl (ka.1 j) | inr j ↦ inr (kb.0 j) ],
                λ i. x.1 (elim i [ inl j ↦ inl (ka.0 j) | inr j ↦ inr (kb.1 j) ]),
              ) in
              let here_at : m + cond (is_some a) 1 0 ≡ n + cond (is_some c) 1 0 = subst (λ t. m + cond (t && is_some a) 1 0 ≡ n + cond (t && is_some c) 1 0) z set_at in
              let some : IsSome a → 1 ≤ n = λ i. subst (λ k. 1 ≤ k) (old_count s h v) (positive (in_group g s h) gs was_group among ((λ k. z k && is_some a) ∙ true_there a i)) in
              let u : count_by (in_region f s h) (r ∷ []) ≡ 0 + cond (is_some b) 1 0 = ap (λ t. 0 + cond (t && is_some b) 1 0) y in
              let most : n + (0 + cond (is_some b) 1 0) ≤ 1 = subst (λ k. k ≤ 1) (whole ∙ ap (λ k. n + k) u) (once s h v) in
              wider a b c n m iff here_at some most ∙ sym (whole ∙ ap (λ k. n + k) u))
          | inr y ↦ (
              let z : (was_group.slot == s) ≡ false = ap (λ k. k == s) wide.of.slot ∙ y in
              let there_at : m + 0 ≡ n + 0 = subst (λ t. m + cond (t && is_some a) 1 0 ≡ n + cond (t && is_some c) 1 0) z set_at in
              let u : count_by (in_region f s h) (r ∷ []) ≡ 0 = ap (λ t. 0 + cond (t && is_some b) 1 0) y in
              omega (arith, there_at, u, whole))
        ]

    wider_was : (h : Header) → IsHeader h → InSet g wide.headers h → WasIn f (bs ++ r ∷ []) h (as_known now_group)
    wider_was h v i = elim ((wide.exact h v).0 i) [
      | inl j ↦ (
          let o = before.was was_group h among v j in
          record { region = o.region; among = Contains-append_left bs (r ∷ []) o.region o.among; inside = o.inside; slot = o.slot; old = o.old })
      | inr j ↦ record { region = r; among = last; inside = (kept_set f e r.headers h kf lr).0 j; slot = sym wide.of.slot; old = sym wide.of.old }
    ]

    in_news : (q : Group) → Contains news q → (now_group ≡ q) ⊎ Contains gs q
    in_news q c = in_set gs wide.index now_group q wide.of.within (subst (λ (xs : List Group). Contains xs q) wide.set_is c)

    pub joined_wider : AreJoined f (bs ++ r ∷ []) g news
    joined_wider =
        record {
          below = λ q c. elim (in_news q c) [
            | inl d ↦ subst (λ (x : Group). x.headers < count_of g) d wide.below
            | inr d ↦ kept_below e g q.headers kg (before.below q d)
          ];
          from = λ q c. elim (in_news q c) [
            | inl d ↦ record { region = r; among = last; slot = sym wide.of.slot ∙ ap (λ (x : Group). x.slot) d }
            | inr d ↦ old_from q d
          ];
          one = λ s h v. ap (count_by (in_group g s h)) wide.set_is ∙ counted s h v;
          was = λ q h c v i. elim (in_news q c) [
            | inl d ↦ subst (λ (x : Group). WasIn f (bs ++ r ∷ []) h (as_known x)) d (wider_was h v (subst (λ (x : Group). InSet g x.headers h) (sym d) i))
            | inr d ↦ old_was q h d v i
          ];
        }

pub joined_after : (f e g : Functions) (bs : List Region) (r : Region) (gs news : List Group) → Keeps f e → Keeps e g → r.headers < count_of f → AreJoined f bs e gs → (all : List Region) → all ≡ bs ++ r ∷ [] → ((s : ℕ) (h : Header) → IsHeader h → count_by (in_region f s h) all ≤ 1) → JoinsRegion e r g gs news → AreJoined f all g news
joined_after f e g bs r gs news kf kg lr before all is once j =
    let once_of : (s : ℕ) (h : Header) → IsHeader h → count_by (in_region f s h) (bs ++ r ∷ []) ≤ 1 = λ s h v. subst (λ (xs : List Region). count_by (in_region f s h) xs ≤ 1) is (once s h v) in
    let after : AreJoined f (bs ++ r ∷ []) g news = elim j [
      | inl new ↦ subst (λ (xs : List Group). AreJoined f (bs ++ r ∷ []) g xs) (sym new) (joined_new f e g bs r gs kf kg lr before)
      | inr wide ↦ joined_wider f e g bs r gs kf kg lr before news wide once_of
    ] in
    subst (λ (xs : List Region). AreJoined f xs g news) (sym is) after

-- ---- what is written
pub widened : (e g : Functions) (r : Region) (gs seen : List Group) (i headers : ℕ) (q p : Group) → seen ≡ gs → IsGroupOf r seen i → q ≡ get_or gs i q → p ≡ get_or gs i p → headers < count_of g → IsSetOf g headers (λ h. InSet e q.headers h ⊎ InSet e r.headers h) → WidensGroup e r g gs (set gs i (record { slot = p.slot; headers = headers; old = p.old }))
widened e g r gs seen i headers q p same of qi pi below exact =
    let o : IsGroupOf r gs i = subst (λ (xs : List Group). IsGroupOf r xs i) same of in
    let there : slice_get gs i ≡ Some q = at_default gs i q o.within ∙ ap (λ (x : Group). Some x) (sym qi) in
    let also : slice_get gs i ≡ Some p = at_default gs i p o.within ∙ ap (λ (x : Group). Some x) (sym pi) in
    let first : Some o.group ≡ Some q = sym o.there ∙ there in
    let group_is : o.group ≡ q = cc in
    let second : Some p ≡ Some q = sym also ∙ there in
    let other_is : p ≡ q = cc in
    record {
      index = i;
      of = record {
        group = q;
        within = o.within;
        there = there;
        slot = subst (λ (x : Group). x.slot ≡ r.slot) group_is o.slot;
        old = subst (λ (x : Group). x.old ≡ r.old) group_is o.old;
      };
      headers = headers;
      below = below;
      exact = exact;
      set_is = ap (λ (x : Group). set gs i (record { slot = x.slot; headers = headers; old = x.old })) other_is;
    }

-- ---- of some of disjoint regions
pub leaving_once : (f : Functions) (d : ℕ) (rs : List Region) (n : ℕ) → IsDisjoint f rs → (s : ℕ) (h : Header) → IsHeader h → count_by (in_region f s h) (filter (leaves d) (take n rs)) ≤ 1
leaving_once f d rs n o s h v =
    let w = sum_by-filter_both (stays d) (leaves d) (λ x. refl) (λ r. cond (in_region f s h r) 1 0) (take n rs) in
    let t = sum_by-take-le (λ r. cond (in_region f s h r) 1 0) rs n in
    let l = o s h v in
    let whole : count_by (in_region f s h) (filter (stays d) (take n rs)) + count_by (in_region f s h) (filter (leaves d) (take n rs)) ≡ count_by (in_region f s h) (take n rs) = w in
    let part : count_by (in_region f s h) (take n rs) ≤ count_by (in_region f s h) rs = t in
    omega (arith, whole, part, l)

pub filtered_once : (f g : Functions) (d : ℕ) (rs : List Region) → Keeps f g → ((r : Region) → Contains rs r → r.headers < count_of f) → IsDisjoint f rs → (s : ℕ) (h : Header) → IsHeader h → count_by (in_region g s h) (filter (leaves d) rs) ≤ 1
filtered_once f g d rs k b o s h v =
    let w = sum_by-filter_both (stays d) (leaves d) (λ x. refl) (λ r. cond (in_region g s h r) 1 0) rs in
    let l = o s h v in
    let same = region_counts_kept f g s h k rs b in
    let whole : count_by (in_region g s h) (filter (stays d) rs) + count_by (in_region g s h) (filter (leaves d) rs) ≡ count_by (in_region g s h) rs = w in
    omega (arith, whole, same, l)

pub reviewed_disjoint : (old new : World) (t : ℕ) (ingress : List Place) (f : Functions) (rs : List Region) → AreReviewed old new t ingress f rs → IsDisjoint f rs
reviewed_disjoint old new t ingress f rs a s h v = elim (cases_lt s (length ingress)) [
  | inl l ↦ (let o = a.one s h l v in omega (arith, o))
  | inr l ↦ (
      let away : (r : Region) → Contains rs r → (r.slot == s) ≡ false = λ r c. (let p = a.right.placed r c in other_slot r.slot s (λ e. omega (arith, p, l, e))) in
      let none = no_count (in_region f s h) rs (λ r c. ap (λ b. b && has_header f r.headers h) (away r c)) in
      omega (arith, none))
]

-- ---- by a list of groups
pub known_there : (gs : List Group) (i : ℕ) (q : Group) → i < length gs → q ≡ get_or gs i q → Contains (map as_known gs) (as_known q)
known_there gs i q l e = to_map as_known gs q (i, l, sym e)

pub known_more : (gs : List Group) (i : ℕ) (q : Group) → i < length gs → q ≡ get_or gs i q → map as_known (take (i + 1) gs) ≡ map as_known (take i gs) ++ as_known q ∷ []
known_more gs i q l e = ap (map as_known) (take_more gs i q l) ∙ (map-append as_known (take i gs) (get_or gs i q ∷ []) ∙ ap (λ x. map as_known (take i gs) ++ as_known x ∷ []) (sym e))

pub known_placed : (ingress : List Place) (f g : Functions) (rs : List Region) (gs : List Group) → AreJoined f rs g gs → ((r : Region) → Contains rs r → r.slot < length ingress) → ArePlaced ingress g (map as_known gs)
known_placed ingress f g rs gs j p r c =
    let q = in_map as_known gs r c in
    let o = j.from q.0 q.1 in
    let same : o.region.slot ≡ r.slot = o.slot ∙ ap (λ (x : Region). x.slot) q.2 in
    (subst (λ n. n < length ingress) same (p o.region o.among), known_below g gs j.below r c)

-- ---- walked again
pub again_joined : (w : World) (t : ℕ) (ingress : List Place) (f : Functions) (bs : List Region) (e : Functions) (gs : List Group) (g : Functions) (more : List Region) → AreJoined f bs e gs → AreAgain w t ingress e (map as_known gs) g more → AreAgain w t ingress f bs g more
again_joined w t ingress f bs e gs g more j a =
    record {
      below = a.below;
      placed = a.placed;
      some = a.some;
      one = λ s h v. a.one s h v ∙ (group_counts e s h gs ∙ j.one s h v);
      was = λ r p h c at v i.
          let o = a.was r p h c at v i in
          let q = in_map as_known gs o.0.region o.0.among in
          let x = j.was q.0 h q.1 v (subst (λ (x : Region). InSet e x.headers h) (sym q.2) o.0.inside) in
          let slot_of : q.0.slot ≡ o.0.region.slot = ap (λ (x : Region). x.slot) q.2 in
          let old_of : q.0.old ≡ o.0.region.old = ap (λ (x : Region). x.old) q.2 in
          (record { region = x.region; among = x.among; inside = x.inside; slot = x.slot ∙ (slot_of ∙ o.0.slot); old = x.old ∙ (old_of ∙ o.0.old) }, o.1);
    }
