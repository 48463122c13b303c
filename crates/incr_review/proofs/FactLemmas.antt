-- Facts, and their numbers.
use Rattle.std.proofs.Common.{ℕ, zero, suc, ◌≡◌, ◌<◌, ◌≤◌, ◌+◌, ◌⊎◌, ◌↔◌, inl, inr, List, [], ◌∷◌, ◌++◌, Option, Some, None, IsSome, length, take, get_or, slice_get, map, refl, ap, sym, ◌∙◌, subst, arith}
use Rattle.std.specs.Prelude.{Contains}
use Rattle.std.specs.Option.{option_map_or}
use Rattle.std.proofs.lemmas.List.{append-nil, take_more, map-append}
use Rattle.std.proofs.lemmas.List.Elements.{Contains-append_cases, Contains-append_left, Contains-append_right}
use Rattle.std.proofs.lemmas.Option.{slice_get_within, slice_get_past, slice_get-get_or}
use Rattle.hdr_bits.specs.declared.header.Header.{Header}
use Rattle.hdr_bits.specs.HeaderBits.{number}
use Rattle.cube_diagram.specs.declared.paired.ValuePair.{ValuePair}
use Rattle.cube_diagram.specs.Combined.{if_both}
use Rattle.cube_diagram.specs.Functions.{Functions, Keeps, count_of, value_at}
use Rattle.cube_diagram.specs.Paired.{IsPairAt}
use Rattle.net_types.proofs.Members.{here, in_one, in_none}
use Rattle.set_walk.specs.Sets.{InSet}
use Rattle.set_walk.proofs.SetLemmas.{kept_set, kept_below}
use Rattle.incr_review.specs.declared.facts.FactSet.{FactSet}
use Rattle.incr_review.specs.declared.facts.WalkFact.{WalkFact}
use Rattle.incr_review.specs.declared.numbers.FactList.{FactList}
use Rattle.incr_review.specs.declared.numbers.FactNumbers.{FactNumbers}
use Rattle.incr_review.specs.Facts.{HasFact, AreFactsBelow, StandOnce}
use Rattle.incr_review.specs.FactNumbers.{facts_at, facts_by, facts_told, facts_of_pair, AreFactNumbers, TellsBoth}
use Rattle.incr_review.proofs.ListLemmas.{get_front, get_back, get_at}

no_value : IsSome {T = ℕ} None → ⊥
no_value e = cc

-- ---- facts
pub facts_kept : (f g : Functions) (facts : List FactSet) → Keeps f g → AreFactsBelow f facts → AreFactsBelow g facts
facts_kept f g facts k b x c = kept_below f g x.headers k (b x c)

pub fact_kept : (f g : Functions) (facts : List FactSet) (h : Header) (x : WalkFact) → Keeps f g → AreFactsBelow f facts → HasFact g facts h x ↔ HasFact f facts h x
fact_kept f g facts h x k b = (
  λ y. record { of = y.of; among = y.among; inside = (kept_set f g y.of.headers h k (b y.of y.among)).0 y.inside; is = y.is },
  λ y. record { of = y.of; among = y.among; inside = (kept_set f g y.of.headers h k (b y.of y.among)).1 y.inside; is = y.is },
)

pub fact_of_either : (f : Functions) (xs ys : List FactSet) (h : Header) (x : WalkFact) → HasFact f (xs ++ ys) h x ↔ (HasFact f xs h x ⊎ HasFact f ys h x)
fact_of_either f xs ys h x = (
  λ d. elim (Contains-append_cases xs ys d.of d.among) [
    | inl c ↦ inl (record { of = d.of; among = c; inside = d.inside; is = d.is })
    | inr c ↦ inr (record { of = d.of; among = c; inside = d.inside; is = d.is })
  ],
  λ d. elim d as (λ z. HasFact f (xs ++ ys) h x) [
    | inl y ↦ record { of = y.of; among = Contains-append_left xs ys y.of y.among; inside = y.inside; is = y.is }
    | inr y ↦ record { of = y.of; among = Contains-append_right xs ys y.of y.among; inside = y.inside; is = y.is }
  ],
)

pub front_below : (f : Functions) (xs ys : List FactSet) → AreFactsBelow f (xs ++ ys) → AreFactsBelow f xs
front_below f xs ys b x c = b x (Contains-append_left xs ys x c)

pub back_below : (f : Functions) (xs ys : List FactSet) → AreFactsBelow f (xs ++ ys) → AreFactsBelow f ys
back_below f xs ys b x c = b x (Contains-append_right xs ys x c)

-- ---- each fact once
pub front_once : (xs ys : List FactSet) → StandOnce (xs ++ ys) → StandOnce xs
front_once xs ys o = record { once = λ i j x y p q e. o.once i j x y (get_front xs ys i x p) (get_front xs ys j y q) e }

pub back_once : (xs ys : List FactSet) → StandOnce (xs ++ ys) → StandOnce ys
back_once xs ys o =
    record {
      once = λ i j x y p q e.
          let s : length xs + i ≡ length xs + j = o.once (length xs + i) (length xs + j) x y (get_back xs ys (length xs + i) i x refl p) (get_back xs ys (length xs + j) j y refl q) e in
          omega (arith, s);
    }

pub halves_apart : (xs ys : List FactSet) → StandOnce (xs ++ ys) → (x y : FactSet) → Contains xs x → Contains ys y → x.fact ≡ y.fact → ⊥
halves_apart xs ys o x y c d e =
    let p = get_at xs x c in
    let q = get_at ys y d in
    let s : p.0 ≡ length xs + q.0 = o.once p.0 (length xs + q.0) x y (get_front xs ys p.0 x p.1) (get_back xs ys (length xs + q.0) q.0 y refl q.1) e in
    let l = slice_get_within xs p.0 x p.1 in
    omega (arith, s, l)

-- ---- numbers
pub numbers_kept : (f g : Functions) (facts : List FactSet) (a : FactNumbers) → Keeps f g → AreFactsBelow f facts → AreFactNumbers f facts a → AreFactNumbers g facts a
numbers_kept f g facts a k b n =
    let same : (h : Header) → value_at g a.function (number h) ≡ value_at f a.function (number h) = λ h. k.value a.function n.below (number h) in
    record {
      below = kept_below f g a.function k n.below;
      exact = λ h v x.
          let told : facts_told g a h ≡ facts_told f a h = ap (facts_by a.lists.items) (same h) in
          let d = fact_kept f g facts h x k b in (
            λ c. d.1 ((n.exact h v x).0 (subst (λ fs. Contains fs x) told c)),
            λ c. subst (λ fs. Contains fs x) (sym told) ((n.exact h v x).1 (d.0 c)),
          );
      same = λ h l v w s. same h ∙ (n.same h l v w (λ x.
          let d = fact_kept f g facts h x k b in
          let e = fact_kept f g facts l x k b in
          (λ y. e.0 ((s x).0 (d.1 y)), λ y. d.0 ((s x).1 (e.1 y)))) ∙ sym (same l));
    }

pub none_numbered : (f : Functions) (a : FactNumbers) → a.function < count_of f → ((h : ℕ) → value_at f a.function h ≡ None) → AreFactNumbers f [] a
none_numbered f a l n =
    record {
      below = l;
      exact = λ h v x. (
        λ c. absurd (in_none x (subst (λ fs. Contains fs x) (ap (facts_by a.lists.items) (n (number h))) c)),
        λ d. absurd (in_none d.of d.among),
      );
      same = λ h k v w s. n (number h) ∙ sym (n (number k));
    }

-- ---- one fact
one_told : (lists : List FactList) (fact : WalkFact) → facts_at lists 0 ≡ fact ∷ [] → (o : Option ℕ) (x : WalkFact) → Contains (facts_by lists (if_both (Some 0) o)) x ↔ (IsSome o × (fact ≡ x))
one_told lists fact e None x = (λ c. absurd (in_none x c), λ d. absurd (no_value d.0))
one_told lists fact e (Some v) x = (
  λ c. (refl, in_one fact x (subst (λ fs. Contains fs x) e c)),
  λ d. subst (λ fs. Contains fs x) (sym e) (subst (Contains (fact ∷ [])) d.1 (here fact [])),
)

same_if_both : (a b : Option ℕ) → (IsSome a ↔ IsSome b) → if_both (Some 0) a ≡ if_both (Some 0) b
same_if_both None None p = refl
same_if_both (Some v) (Some w) p = refl
same_if_both None (Some w) p = absurd (no_value (p.1 refl))
same_if_both (Some v) None p = absurd (no_value (p.0 refl))

pub one_numbered : (f g : Functions) (fact : FactSet) (a : FactNumbers) → Keeps f g → fact.headers < count_of f → a.function < count_of g → facts_at a.lists.items 0 ≡ fact.fact ∷ [] → ((h : ℕ) → value_at g a.function h ≡ if_both (Some 0) (value_at f fact.headers h)) → AreFactNumbers g (fact ∷ []) a
one_numbered f g fact a k lf la lists exact =
    record {
      below = la;
      exact = λ h v x.
          let told = one_told a.lists.items fact.fact lists (value_at f fact.headers (number h)) x in
          let is = ap (facts_by a.lists.items) (exact (number h)) in
          let s = kept_set f g fact.headers h k lf in (
            λ c. let d = told.0 (subst (λ fs. Contains fs x) is c) in record { of = fact; among = here fact []; inside = s.1 d.0; is = d.1 },
            λ d. let e = in_one fact d.of d.among in
                subst (λ fs. Contains fs x) (sym is) (told.1 (s.0 (subst (λ (y : FactSet). InSet g y.headers h) (sym e) d.inside), ap (λ (y : FactSet). y.fact) e ∙ d.is)),
          );
      same = λ h l v w s.
          let across : (p q : Header) → ((x : WalkFact) → HasFact g (fact ∷ []) p x → HasFact g (fact ∷ []) q x) → InSet f fact.headers p → InSet f fact.headers q = λ p q r i. (
          let d = r fact.fact (record { of = fact; among = here fact []; inside = (kept_set f g fact.headers p k lf).1 i; is = refl }) in
          (kept_set f g fact.headers q k lf).0 (subst (λ (y : FactSet). InSet g y.headers q) (sym (in_one fact d.of d.among)) d.inside)) in
          exact (number h) ∙ (same_if_both (value_at f fact.headers (number h)) (value_at f fact.headers (number l)) (across h l (λ x. (s x).0), across l h (λ x. (s x).1)) ∙ sym (exact (number l)));
    }

-- ---- two that tell facts apart
half_same : (f g : Functions) (xs ys : List FactSet) (h k : Header) (x : WalkFact) → Keeps f g → AreFactsBelow f xs → ((y z : FactSet) → Contains xs y → Contains ys z → y.fact ≡ z.fact → ⊥) → (HasFact g (xs ++ ys) h x → HasFact g (xs ++ ys) k x) → HasFact f xs h x → HasFact f xs k x
half_same f g xs ys h k x kept b apart s d =
    let up : HasFact g xs h x = (fact_kept f g xs h x kept b).1 d in
    elim ((fact_of_either g xs ys k x).0 (s ((fact_of_either g xs ys h x).1 (inl up)))) [
      | inl y ↦ (fact_kept f g xs k x kept b).0 y
      | inr z ↦ absurd (apart d.of z.of d.among z.among (d.is ∙ sym z.is))
    ]

other_half_same : (f g : Functions) (xs ys : List FactSet) (h k : Header) (x : WalkFact) → Keeps f g → AreFactsBelow f ys → ((y z : FactSet) → Contains xs y → Contains ys z → y.fact ≡ z.fact → ⊥) → (HasFact g (xs ++ ys) h x → HasFact g (xs ++ ys) k x) → HasFact f ys h x → HasFact f ys k x
other_half_same f g xs ys h k x kept b apart s d =
    let up : HasFact g ys h x = (fact_kept f g ys h x kept b).1 d in
    elim ((fact_of_either g xs ys k x).0 (s ((fact_of_either g xs ys h x).1 (inr up)))) [
      | inl y ↦ absurd (apart y.of d.of y.among d.among (y.is ∙ sym d.is))
      | inr z ↦ (fact_kept f g ys k x kept b).0 z
    ]

pub both_numbered : (f g : Functions) (xs ys : List FactSet) (a b c : FactNumbers) → Keeps f g → AreFactsBelow f xs → AreFactsBelow f ys → ((x y : FactSet) → Contains xs x → Contains ys y → x.fact ≡ y.fact → ⊥) → AreFactNumbers f xs a → AreFactNumbers f ys b → TellsBoth f a b g c → AreFactNumbers g (xs ++ ys) c
both_numbered f g xs ys a b c kept bx bz apart na nb t =
    record {
      below = t.below;
      exact = λ h v x.
          let n = number h in
          let fa = facts_told f a h in
          let fb = facts_told f b h in
          let either = fact_of_either g xs ys h x in
          let kx = fact_kept f g xs h x kept bx in
          let ky = fact_kept f g ys h x kept bz in (
            λ m. either.1 (elim (Contains-append_cases fa fb x (subst (λ fs. Contains fs x) (t.facts n) m)) [
              | inl p ↦ inl (kx.1 ((na.exact h v x).0 p))
              | inr p ↦ inr (ky.1 ((nb.exact h v x).0 p))
            ]),
            λ d. subst (λ fs. Contains fs x) (sym (t.facts n)) (elim (either.0 d) as (λ z. Contains (fa ++ fb) x) [
              | inl p ↦ Contains-append_left fa fb x ((na.exact h v x).1 (kx.0 p))
              | inr p ↦ Contains-append_right fa fb x ((nb.exact h v x).1 (ky.0 p))
            ]),
          );
      same = λ h k v w s.
          t.same (number h) (number k)
          (na.same h k v w (λ x. (half_same f g xs ys h k x kept bx apart (s x).0, half_same f g xs ys k h x kept bx apart (s x).1)))
          (nb.same h k v w (λ x. (other_half_same f g xs ys h k x kept bz apart (s x).0, other_half_same f g xs ys k h x kept bz apart (s x).1)));
    }

-- ---- pairs of numbers
pub pair_facts : (first second news : List FactList) (pairs : List ValuePair) → ((n : ℕ) (p : ValuePair) → slice_get pairs n ≡ Some p → facts_at news n ≡ facts_of_pair first second p) → (x y o : Option ℕ) → IsPairAt pairs x y o → facts_by news o ≡ facts_by first x ++ facts_by second y
pair_facts first second news pairs told x y None a = sym (λ i. facts_by first (a.0 i) ++ facts_by second (a.1 i))
pair_facts first second news pairs told x y (Some n) a = told n (record { first = x; second = y }) a.0

pub pair_same : (pairs : List ValuePair) → ((i j : ℕ) (p : ValuePair) → slice_get pairs i ≡ Some p → slice_get pairs j ≡ Some p → i ≡ j) → (x y o u v q : Option ℕ) → x ≡ u → y ≡ v → IsPairAt pairs x y o → IsPairAt pairs u v q → o ≡ q
pair_same pairs once x y None u v None ex ey a b = refl
pair_same pairs once x y None u v (Some m) ex ey a b = absurd (b.1 (sym ex ∙ a.0) (sym ey ∙ a.1))
pair_same pairs once x y (Some n) u v None ex ey a b = absurd (a.1 (ex ∙ b.0) (ey ∙ b.1))
pair_same pairs once x y (Some n) u v (Some m) ex ey a b =
    let pair : ValuePair = record { first = x; second = y } in
    let same : record { first = u; second = v } ≡ pair = (λ i. record { first = sym ex i; second = sym ey i }) in
    ap Some (once n m pair a.0 (b.0 ∙ ap Some same))

-- ---- the facts at a number
pub facts_past : (lists : List FactList) (i : ℕ) (before : List WalkFact) → length lists ≤ i → before ≡ before ++ facts_at lists i
facts_past lists i before l = sym (append-nil before) ∙ ap (λ (o : Option FactList). before ++ option_map_or (λ x. x.facts.items) o []) (sym (slice_get_past lists i l))

pub facts_there : (lists : List FactList) (i : ℕ) (x : FactList) (facts : List WalkFact) → i < length lists → facts ≡ (get_or lists i x).facts.items → facts ≡ facts_at lists i
facts_there lists i x facts l q = q ∙ ap (λ (o : Option FactList). option_map_or (λ y. y.facts.items) o []) (sym (slice_get-get_or lists i x l))

-- ---- lists by pairs
abbrev pub items_of : FactList → List WalkFact
items_of l = l.facts.items

heads : {A : Type 0} (x y : A) (xs ys : List A) → x ∷ xs ≡ y ∷ ys → x ≡ y
heads x y xs ys e = cc

tails : {A : Type 0} (x y : A) (xs ys : List A) → x ∷ xs ≡ y ∷ ys → xs ≡ ys
tails x y xs ys e = cc

pub at_pair : (first second ls : List FactList) (ps : List ValuePair) → map items_of ls ≡ map (facts_of_pair first second) ps → (n : ℕ) (p : ValuePair) → slice_get ps n ≡ Some p → facts_at ls n ≡ facts_of_pair first second p
at_pair first second [] [] e n p g = absurd cc
at_pair first second [] (q ∷ ps) e n p g = absurd cc
at_pair first second (l ∷ ls) [] e n p g = absurd cc
at_pair first second (l ∷ ls) (q ∷ ps) e zero p g =
    let same : q ≡ p = cc in
    heads (items_of l) (facts_of_pair first second q) (map items_of ls) (map (facts_of_pair first second) ps) e ∙ ap (facts_of_pair first second) same
at_pair first second (l ∷ ls) (q ∷ ps) e (suc n) p g = at_pair first second ls ps (tails (items_of l) (facts_of_pair first second q) (map items_of ls) (map (facts_of_pair first second) ps) e) n p g

pub pairs_more : (first second ls : List FactList) (l : FactList) (ps : List ValuePair) (i : ℕ) (p : ValuePair) → i < length ps → p ≡ get_or ps i p → map items_of ls ≡ map (facts_of_pair first second) (take i ps) → items_of l ≡ facts_of_pair first second p → map items_of (ls ++ l ∷ []) ≡ map (facts_of_pair first second) (take (i + 1) ps)
pairs_more first second ls l ps i p less e old new =
    let taken : take (i + 1) ps ≡ take i ps ++ p ∷ [] = take_more ps i p less ∙ ap (λ z. take i ps ++ z ∷ []) (sym e) in
    map-append items_of ls (l ∷ []) ∙ ((λ k. old k ++ new k ∷ []) ∙ (sym (map-append (facts_of_pair first second) (take i ps) (p ∷ [])) ∙ ap (map (facts_of_pair first second)) (sym taken)))
