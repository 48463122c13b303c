-- Turns of the walk over the numbers of moves.
use Rattle.std.proofs.Common.{◌≡◌, ℕ, ◌⊎◌, zero, suc, inl, inr, ◌+◌, ◌-◌, ◌<◌, ◌≤◌, List, [], ◌∷◌, ◌++◌, Some, None, map, length, slice_get, slice_index_or, refl, sym, ap, subst, ◌∙◌, arith}
use Rattle.std.proofs.Math.Numerals.{add-one}
use Rattle.std.proofs.Math.Nat.{eq-or-lt_of_le}
use Rattle.std.specs.Prelude.{flat_map, Contains}
use Rattle.std.specs.List.{AllByRecursion, dedup}
use Rattle.std.specs.List.Sorted.{IsPermutation}
use Rattle.std.specs.Prelude.{eqb, true, false, ◌==◌}
use Rattle.std.proofs.lemmas.List.{length-append}
use Rattle.std.proofs.lemmas.List.Elements.{filter_map-append}
use Rattle.std.proofs.lemmas.List.Concat.{flat_map-append}
use Rattle.std.proofs.lemmas.List.Kept.{Contains-dedup_nat, Contains-from_dedup}
use Rattle.std.proofs.lemmas.List.Sorted.{Contains-permutation, IsPermutation-sym}
use Rattle.std.proofs.lemmas.Bool.Decides.{nat_tests}
use Rattle.hdr_bits.specs.declared.header.Header.{Header}
use Rattle.hdr_bits.specs.declared.cube.Cube.{Cube}
use Rattle.net_types.specs.declared.label.Outcome.{Outcome}
use Rattle.net_types.specs.declared.network.Place.{Place}
use Rattle.net_types.specs.World.{World}
use Rattle.transfer_rel.specs.CubeMoves.{SameSet}
use Rattle.region_walk.specs.declared.spot.Spot.{Spot}
use Rattle.region_walk.specs.declared.visit.Visit.{Visit}
use Rattle.region_walk.specs.declared.level.Level.{Level}
use Rattle.hdr_bits.specs.Lists.{Extends}
use Rattle.region_walk.specs.Lists.{AreOnce, AddsFrom, items_at, AreNumbersOf}
use Rattle.region_walk.specs.Steps.{GrowsWith}
use Rattle.region_walk.specs.Spots.{IsBase, IsSpot, spot_at, state_of}
use Rattle.region_walk.specs.Visits.{IsVisit, IsLevel, AreAfter, spot_of, next_spots, next_numbers, states_at, visits_at, states_below, visit_outcomes, outcomes_below, IsGraph, AreVisited, AreDone, AreStates}
use Rattle.region_walk.specs.Seen.{IsVisitOf, AllVisited}
use Rattle.region_walk.proofs.SetLemmas.{same_refl, same_append, same_flat, same_filter_map, all_push, all_weaker}
use Rattle.region_walk.proofs.LevelLemmas.{next_after}
use Rattle.region_walk.proofs.NumberLemmas.{get_joined, get_push, adds_keep, numbers_more, numbers_items, numbers_within, items_more, all_within, longer, same_items, next_within, items_stand, items_all}

-- ---- numbers, each once

pub once_same : (xs ys zs : List ℕ) → IsPermutation xs ys → zs ≡ dedup eqb ys → SameSet zs xs
once_same xs ys zs moved kept q = (
  λ h. Contains-permutation ys xs q (IsPermutation-sym xs ys moved) (Contains-from_dedup eqb ys q (subst (λ l. Contains l q) kept h)),
  λ h. subst (λ l. Contains l q) (sym kept) (Contains-dedup_nat ys q (Contains-permutation xs ys q moved h)),
)

-- ---- levels by their numbers

pub level_some : (ls : List Level) (n : ℕ) (l : Level) → n < length ls → l ≡ slice_index_or ls n l → l.states ≡ states_at ls n
level_some [] n l h e = absurd (omega (arith, h))
level_some (x ∷ ls) zero l h e = ap (λ (y : Level). y.states) e
level_some (x ∷ ls) (suc n) l h e = level_some ls n l (omega (arith, h)) e

pub level_none : (ls : List Level) (n : ℕ) → length ls ≤ n → [] ≡ states_at ls n
level_none [] n h = refl
level_none (x ∷ ls) zero h = absurd (omega (arith, h))
level_none (x ∷ ls) (suc n) h = level_none ls n (omega (arith, h))

level_before : (ls : List Level) (l : Level) (k : ℕ) → k < length ls → states_at (ls ++ (l ∷ [])) k ≡ states_at ls k
level_before [] l k h = absurd (omega (arith, h))
level_before (x ∷ ls) l zero h = refl
level_before (x ∷ ls) l (suc k) h = level_before ls l k (omega (arith, h))

level_last : (ls : List Level) (l : Level) → states_at (ls ++ (l ∷ [])) (length ls) ≡ l.states
level_last [] l = refl
level_last (x ∷ ls) l = level_last ls l

pub level_all : (P : ℕ → Type 0) (ls : List Level) (n : ℕ) → AllByRecursion (λ (l : Level). AllByRecursion P l.states) ls → AllByRecursion P (states_at ls n)
level_all P [] n a = tt
level_all P (l ∷ ls) zero a = a.0
level_all P (l ∷ ls) (suc n) a = level_all P ls n a.1

-- ---- visits

-- one more visit
pub visited_push : (w : World) (c : Cube) (g : Header) (spot : Spot) (spots new : List Spot) (visits : List Visit) (v : Visit) → AreVisited w c g spots visits → slice_get spots (length visits) ≡ Some spot → IsVisitOf w c g spot spots new v → GrowsWith (IsSpot c g) spots new → AreVisited w c g new (visits ++ (v ∷ []))
visited_push w c g spot spots new visits v a there one grows =
    let more : (i : ℕ) (s : Spot) → slice_get spots i ≡ Some s → slice_get new i ≡ Some s =
    λ i s e. subst (λ l. slice_get l i ≡ Some s) (sym grows.extends.added) (get_joined spots grows.extends.more i s e) in
    record {
      found = grows.kept;
      once = grows.once a.once;
      each = all_push (IsVisit w c g) visits v a.each one.right;
      numbered = record {
        at = λ i u e. elim (get_push visits v i u e) [
          | inl h ↦ more i u.spot (a.numbered.at i u h)
          | inr h ↦
              let s : spot ≡ u.spot = sym one.same ∙ ap spot_of h.1 in
              subst (λ j. slice_get new j ≡ Some u.spot) (sym h.0) (more (length visits) spot there ∙ ap Some s)
        ];
        next = all_push (λ u. AreNumbersOf new u.next (next_spots u)) visits v
            (all_weaker (λ u. AreNumbersOf spots u.next (next_spots u)) (λ u. AreNumbersOf new u.next (next_spots u)) visits (λ u h. numbers_more spots new u.next (next_spots u) grows.extends h) a.numbered.next)
            one.numbers;
      };
    }

pub none_visited : (w : World) (c : Cube) (g : Header) (spots : List Spot) → AllByRecursion (IsSpot c g) spots → AreOnce spots → AreVisited w c g spots []
none_visited w c g spots found once = record {
  found = found;
  once = once;
  each = tt;
  numbered = record { at = λ i v e. absurd cc; next = tt };
}

-- ---- a turn

level_is : (w : World) (c : Cube) (g : Header) (p : Place) (n seen : ℕ) (spots new : List Spot) (visits : List Visit) (states : List ℕ) → AreStates w c g p n spots states → Extends spots new → AllVisited w c g seen spots new visits → IsLevel w c g p n (items_at visits states)
level_is w c g p n seen spots new visits states a grows all =
    let there : AllByRecursion (λ (i : ℕ). i < length visits) states = all_weaker (λ (i : ℕ). i < length spots) (λ (i : ℕ). i < length visits) states (λ i l. omega (arith, l, all.all)) a.there in
    let same : map spot_of (items_at visits states) ≡ items_at spots states = items_stand spot_of visits new all.right.numbered.at states there ∙ items_more spots new states grows a.there in
    record {
      after = subst (AreAfter w c g p n) (sym same) a.after;
      each = items_all (IsVisit w c g) visits states all.right.each;
    }

module _ (w : World) (c : Cube) (g : Header) (p : Place) (n seen : ℕ) (spots new : List Spot) (before visits : List Visit) (states next : List ℕ)
    (a : AreStates w c g p n spots states) (grows : Extends spots new) (all : AllVisited w c g seen spots new visits) where
  pub states_turn : SameSet next (flat_map next_numbers (items_at visits states)) → AreStates w c g p (n + 1) new next
  states_turn same =
      let vs = items_at visits states in
      let numbered : AllByRecursion (λ v. AreNumbersOf new v.next (next_spots v)) vs = items_all (λ v. AreNumbersOf new v.next (next_spots v)) visits states all.right.numbered.next in
      record {
        after = rw add-one (next_after w c g p n vs (items_at new next) (level_is w c g p n seen spots new visits states a grows all) (same_items new next_numbers next_spots vs next numbered same));
        there = next_within new next_numbers next_spots vs next numbered same;
      }

  pub done_turn : (levels after : List Level) (l : Level) → AreDone w c g p n before levels → Extends before visits → l.states ≡ states → after ≡ levels ++ (l ∷ []) → AreDone w c g p (n + 1) visits after
  done_turn levels after l d more e f = subst (AreDone w c g p (n + 1) visits) (sym f) (record {
    count = length-append levels (l ∷ []) ∙ omega (arith, d.count);
    right = record {
      each = λ k h. elim (eq-or-lt_of_le (let u : k ≤ n = omega (arith, h) in u)) [
        | inl s ↦
            let here : states_at (levels ++ (l ∷ [])) k ≡ states = ap (states_at (levels ++ (l ∷ []))) (s ∙ sym d.count) ∙ level_last levels l ∙ e in
            subst (λ j. IsLevel w c g p j (visits_at visits (levels ++ (l ∷ [])) k)) (sym s) (subst (λ ns. IsLevel w c g p n (items_at visits ns)) (sym here) (level_is w c g p n seen spots new visits states a grows all))
        | inr b ↦
            let within : AllByRecursion (λ (i : ℕ). i < length before) (states_at levels k) = level_all (λ (i : ℕ). i < length before) levels k d.there in
            let old : visits_at visits (levels ++ (l ∷ [])) k ≡ visits_at before levels k = ap (items_at visits) (level_before levels l k (omega (arith, b, d.count))) ∙ items_more before visits (states_at levels k) more within in
            subst (IsLevel w c g p k) (sym old) (d.right.each k b)
      ];
    };
    there = all_push (λ (m : Level). AllByRecursion (λ (i : ℕ). i < length visits) m.states) levels l
        (all_weaker (λ (m : Level). AllByRecursion (λ (i : ℕ). i < length before) m.states) (λ (m : Level). AllByRecursion (λ (i : ℕ). i < length visits) m.states) levels (λ m h. all_within before visits m.states (longer before visits more) h) d.there)
        (subst (AllByRecursion (λ (i : ℕ). i < length visits)) (sym e) (all_weaker (λ (i : ℕ). i < length spots) (λ (i : ℕ). i < length visits) states (λ i b. omega (arith, b, all.all)) a.there));
  })

-- ---- the end

-- once no walk goes on, none does later
ended_later : (w : World) (c : Cube) (g : Header) (p : Place) (n d : ℕ) → AreAfter w c g p n [] → AreAfter w c g p (n + d) []
ended_later w c g p n zero a = subst (λ k. AreAfter w c g p k []) (omega arith) a
ended_later w c g p n (suc d) a =
    let b = ended_later w c g p n d a in
    subst (λ k. AreAfter w c g p k []) (omega arith) (next_after w c g p (n + d) [] [] (record { after = b; each = tt }) (same_refl {A = Spot} []))

pub graph_at_end : (w : World) (c : Cube) (g : Header) (p : Place) (n : ℕ) (spots : List Spot) (visits : List Visit) (levels : List Level) (states : List ℕ) → IsBase c g → AreVisited w c g spots visits → AreDone w c g p n visits levels → AreStates w c g p n spots states → states ≡ [] → IsGraph w c p visits levels
graph_at_end w c g p n spots visits levels states base v d a e = record {
  base = g;
  based = base;
  all = record {
    each = λ k h. elim (lt_or_ge k n) [
      | inl l ↦ d.right.each k l
      | inr b ↦
          let none : AreAfter w c g p n [] = subst (λ ns. AreAfter w c g p n (items_at spots ns)) e a.after in
          let gone : AreAfter w c g p k [] = subst (λ j. AreAfter w c g p j []) (omega (arith, b)) (ended_later w c g p n (k - n) none) in
          subst (λ ns. IsLevel w c g p k (items_at visits ns)) (level_none levels k (omega (arith, d.count, b))) (record { after = gone; each = tt })
    ];
  };
  spots = spots;
  visited = v;
  there = d.there;
}
  where
    lt_or_ge : (k n : ℕ) → (k < n) ⊎ (n ≤ k)
    lt_or_ge k zero = inr (omega arith)
    lt_or_ge zero (suc n) = inl (omega arith)
    lt_or_ge (suc k) (suc n) = elim (lt_or_ge k n) [
      | inl l ↦ inl (omega (arith, l))
      | inr b ↦ inr (omega (arith, b))
    ]

pub graph_of_all : (w : World) (c : Cube) (g : Header) (p : Place) (spots : List Spot) (visits : List Visit) (levels : List Level) → IsBase c g → AreVisited w c g spots visits → AreDone w c g p 255 visits levels → IsGraph w c p visits levels
graph_of_all w c g p spots visits levels base v d = record { base = g; based = base; all = d.right; spots = spots; visited = v; there = d.there }

pub empty_if : {A : Type 0} (xs : List A) → length xs ≡ 0 → xs ≡ []
empty_if [] e = refl
empty_if (x ∷ xs) e = absurd (omega (arith, e))

-- ---- the start

first_spot : (c : Cube) (g : Header) (p : Place) → IsSpot c g (spot_at p (record { src = None; dst = None; sport = None; dport = None }))
first_spot c g p = record {
  stamp = λ h i m. record { src = refl; dst = refl; sport = refl; dport = refl };
  fits = record { src = tt; dst = tt; sport = tt; dport = tt };
}

module _ (w : World) (c : Cube) (g : Header) (p : Place) (spot : Spot) (is : spot ≡ spot_at p (record { src = None; dst = None; sport = None; dport = None })) (old spots : List Spot) (none : old ≡ []) (adds : AddsFrom (spot ∷ []) old spots) where
  first_once : AreOnce spots
  first_once = adds.once (subst AreOnce (sym none) (record { one = λ i j x a b. cc }))

  pub start_visited : AreVisited w c g spots []
  start_visited =
      let fit : IsSpot c g spot = subst (IsSpot c g) (sym is) (first_spot c g p) in
      none_visited w c g spots (adds_keep (IsSpot c g) (spot ∷ []) old spots adds (fit, tt) (subst (AllByRecursion (IsSpot c g)) (sym none) tt)) first_once

  pub start_states : (number : ℕ) (states : List ℕ) → slice_get spots number ≡ Some spot → states ≡ number ∷ [] → AreStates w c g p 0 spots states
  start_states number states e f =
      let one : AreNumbersOf spots (number ∷ []) (spot ∷ []) = λ i. e i ∷ [] in
      let items : items_at spots states ≡ spot_at p (record { src = None; dst = None; sport = None; dport = None }) ∷ [] = ap (items_at spots) f ∙ numbers_items spots (number ∷ []) (spot ∷ []) one ∙ (λ i. is i ∷ []) in
      record {
        after = subst (AreAfter w c g p 0) (sym items) (record { states = λ h i m. same_refl (state_of h (spot_at p (record { src = None; dst = None; sport = None; dport = None })) ∷ []) });
        there = subst (AllByRecursion (λ (i : ℕ). i < length spots)) (sym f) (numbers_within spots (number ∷ []) (spot ∷ []) one);
      }

pub start_done : (w : World) (c : Cube) (g : Header) (p : Place) (visits : List Visit) (levels : List Level) → levels ≡ [] → AreDone w c g p 0 visits levels
start_done w c g p visits levels e = subst (AreDone w c g p 0 visits) (sym e) (record { count = refl; right = record { each = λ n l. absurd (omega (arith, l)) }; there = tt })

-- ---- outcomes

below_is : (visits : List Visit) (levels : List Level) (t n : ℕ) → n < t → outcomes_below t (visits_at visits levels) n ≡ flat_map (visit_outcomes false) (items_at visits (states_below levels n))
below_is visits levels t zero l = refl
below_is visits levels t (suc n) l =
    let go_on : (n + 1 == t) ≡ false = grind (arith, nat_tests) in
    (λ i. below_is visits levels t n (omega (arith, l)) i ++ flat_map (visit_outcomes (go_on i)) (visits_at visits levels n))
    ∙ sym (flat_map-append (visit_outcomes false) (items_at visits (states_below levels n)) (visits_at visits levels n))
    ∙ ap (flat_map (visit_outcomes false)) (sym (filter_map-append (slice_get visits) (states_below levels n) (states_at levels n)))

-- the outcomes of the visits below the last level, each taken once, and of those at the last level
pub outcomes_are : (visits : List Visit) (levels : List Level) (t last : ℕ) (before : List ℕ) (outs : List Outcome) → last + 1 ≡ t → SameSet before (states_below levels last) → outs ≡ flat_map (visit_outcomes false) (items_at visits before) ++ flat_map (visit_outcomes true) (visits_at visits levels last) → SameSet outs (outcomes_below t (visits_at visits levels) t)
outcomes_are visits levels t last before outs e same is =
    let at_last : (last + 1 == t) ≡ true = grind (arith, nat_tests, e) in
    let below = outcomes_below t (visits_at visits levels) last in
    let whole : outcomes_below t (visits_at visits levels) (suc last) ≡ below ++ flat_map (visit_outcomes true) (visits_at visits levels last) = λ i. below ++ flat_map (visit_outcomes (at_last i)) (visits_at visits levels last) in
    let early : SameSet (flat_map (visit_outcomes false) (items_at visits before)) below =
    subst (SameSet (flat_map (visit_outcomes false) (items_at visits before))) (sym (below_is visits levels t last (omega (arith, e))))
    (same_flat (visit_outcomes false) (items_at visits before) (items_at visits (states_below levels last)) (same_filter_map (slice_get visits) before (states_below levels last) same)) in
    let ends = flat_map (visit_outcomes true) (visits_at visits levels last) in
    subst (λ n. SameSet outs (outcomes_below t (visits_at visits levels) n)) (let f : suc last ≡ t = omega (arith, e) in f)
    (subst (λ l. SameSet l (outcomes_below t (visits_at visits levels) (suc last))) (sym is)
    (subst (SameSet (flat_map (visit_outcomes false) (items_at visits before) ++ ends)) (sym whole)
    (same_append (flat_map (visit_outcomes false) (items_at visits before)) ends below ends early (same_refl ends))))
