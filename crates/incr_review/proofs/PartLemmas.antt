-- The headers of a set, in parts by their facts.
use Rattle.std.proofs.Common.{ℕ, zero, suc, ◌≡◌, ◌<◌, ◌⊎◌, ◌↔◌, inl, inr, Bool, true, false, cond, is_some, List, [], ◌∷◌, ◌++◌, Option, Some, None, IsSome, length, get_or, slice_get, ◌+◌, refl, ap, sym, ◌∙◌, subst, arith}
use Rattle.std.specs.Prelude.{Contains, count_by}
use Rattle.std.specs.List.{AllZip}
use Rattle.std.proofs.lemmas.Bool.{cases_eq, cases_order}
use Rattle.std.proofs.lemmas.List.{append-nil}
use Rattle.std.proofs.lemmas.List.Elements.{Contains-append_cases}
use Rattle.std.proofs.lemmas.List.Sums.{sum_by-append}
use Rattle.std.proofs.lemmas.Option.{slice_get_within, get_or_from_slice_get, slice_get-get_or}
use Rattle.hdr_bits.specs.declared.header.Header.{Header}
use Rattle.hdr_bits.specs.HeaderBits.{number, header_of, IsHeader}
use Rattle.hdr_bits.proofs.Numbers.{number-below, number-header_of, header_of-is_header}
use Rattle.cube_diagram.specs.declared.value_sets.ValueSet.{ValueSet}
use Rattle.cube_diagram.specs.Combined.{if_both}
use Rattle.cube_diagram.specs.Functions.{Functions, Keeps, GivesNothing, count_of, value_at}
use Rattle.cube_diagram.specs.ValueSets.{AreValueSets}
use Rattle.cube_diagram.proofs.ValuesTold.{value_sets_kept, in_value_set, in_one_set}
use Rattle.net_types.proofs.Members.{in_one, in_none}
use Rattle.set_walk.specs.Sets.{InSet, IsSetOf}
use Rattle.set_walk.proofs.SetLemmas.{kept_set, kept_below, keeps_then, in_or_not}
use Rattle.incr_review.specs.declared.facts.FactSet.{FactSet}
use Rattle.incr_review.specs.declared.facts.WalkFact.{WalkFact}
use Rattle.incr_review.specs.declared.numbers.FactList.{FactList}
use Rattle.incr_review.specs.declared.numbers.FactNumbers.{FactNumbers}
use Rattle.incr_review.specs.declared.parts.Part.{Part}
use Rattle.incr_review.specs.Facts.{HasFact, AreFactsBelow}
use Rattle.incr_review.specs.FactNumbers.{facts_by, facts_told, AreFactNumbers}
use Rattle.incr_review.specs.Parts.{ones, IsFilled, in_part, AreParts, AddsPart, IsPartBy, TellAlike}
use Rattle.incr_review.proofs.ListLemmas.{get_cases, get_at, from_get, zip_at, zip_from}
use Rattle.incr_review.proofs.FactLemmas.{numbers_kept}

-- ---- sets
no_value : IsSome {T = ℕ} None → ⊥
no_value e = cc

pub not_some : (o : Option ℕ) → (IsSome o → ⊥) → o ≡ None
not_some None n = refl
not_some (Some v) n = absurd (n refl)

-- a set that has none of the headers is empty
pub empty_set : (f : Functions) (set : ℕ) → ((h : Header) → IsHeader h → InSet f set h → ⊥) → GivesNothing (value_at f set)
empty_set f set n x l =
    let e = number-header_of x l in
    not_some (value_at f set x) (λ s. n (header_of x) (header_of-is_header x) (subst (λ y. IsSome (value_at f set y)) (sym e) s))

pub filled_kept : (f g : Functions) (set : ℕ) → Keeps f g → set < count_of f → IsFilled f set → IsFilled g set
filled_kept f g set k l s n = s (λ x m. sym (k.value set l x) ∙ n x m)

ones_same : (o : Option ℕ) → 0 + cond (is_some o) 1 0 ≡ ones o
ones_same None = refl
ones_same (Some v) = refl

ones_split : (a b c : Option ℕ) (F : Type 0) → (IsSome a ↔ (IsSome c × F)) → (IsSome b ↔ (IsSome c × (F → ⊥))) → F ⊎ (F → ⊥) → ones a + ones b ≡ ones c
ones_split a b None F p q d = ap (λ o. ones o + ones b) (not_some a (λ s. no_value (p.0 s).0)) ∙ ap (λ o. 0 + ones o) (not_some b (λ s. no_value (q.0 s).0))
ones_split (Some u) (Some v) (Some w) F p q d = absurd ((q.0 refl).1 (p.0 refl).1)
ones_split (Some u) None (Some w) F p q d = refl
ones_split None (Some v) (Some w) F p q d = refl
ones_split None None (Some w) F p q (inl y) = absurd (no_value (p.1 (refl, y)))
ones_split None None (Some w) F p q (inr n) = absurd (no_value (q.1 (refl, n)))

not_both : (o : Option ℕ) → o ≡ Some 1 → o ≡ None → ⊥
not_both o p q = absurd cc

both_some : (x y : Option ℕ) → IsSome (if_both x y) ↔ (IsSome y × IsSome x)
both_some x None = (λ e. absurd (no_value e), λ p. absurd (no_value p.0))
both_some None (Some v) = (λ e. absurd (no_value e), λ p. absurd (no_value p.1))
both_some (Some u) (Some v) = (λ e. (refl, refl), λ p. refl)

first_of_both : (x y : Option ℕ) (v : ℕ) → if_both x y ≡ Some v → x ≡ Some v
first_of_both x None v e = (let no : None ≡ Some v = e in absurd cc)
first_of_both x (Some w) v e = e

-- ---- how many have a header
is_true : (o : Option ℕ) → IsSome o → is_some o ≡ true
is_true None i = absurd (no_value i)
is_true (Some v) i = refl

is_there : (o : Option ℕ) → is_some o ≡ true → IsSome o
is_there None e = cc
is_there (Some v) e = refl

not_true : (b : Bool) → (b ≡ true → ⊥) → b ≡ false
not_true true n = absurd (n refl)
not_true false n = refl

-- where no item passes the test
count_none : {X : Type 0} (p : X → Bool) (xs : List X) → ((j : ℕ) (y : X) → slice_get xs j ≡ Some y → p y ≡ true → ⊥) → count_by p xs ≡ 0
count_none p [] u = refl
count_none p (y ∷ ys) u =
    let s = sum_by-append (λ z. cond (p z) 1 0) (y ∷ []) ys in
    let n : count_by p (y ∷ []) ≡ 0 = ap (λ b. 0 + cond b 1 0) (not_true (p y) (u 0 y refl)) in
    let m = count_none p ys (λ j z g q. u (suc j) z g q) in
    omega (arith, s, n, m)

-- where one does
count_one : {X : Type 0} (p : X → Bool) (xs : List X) (k : ℕ) (x : X) → slice_get xs k ≡ Some x → p x ≡ true → ((j : ℕ) (y : X) → slice_get xs j ≡ Some y → p y ≡ true → j ≡ k) → count_by p xs ≡ 1
count_one p [] k x e t u = (let no : None ≡ Some x = e in absurd cc)
count_one p (y ∷ ys) zero x e t u =
    let same : y ≡ x = cc in
    let one : p y ≡ true = ap p same ∙ t in
    let s = sum_by-append (λ z. cond (p z) 1 0) (y ∷ []) ys in
    let n : count_by p (y ∷ []) ≡ 1 = ap (λ b. 0 + cond b 1 0) one in
    let m = count_none p ys (λ j z g q. (let w = u (suc j) z g q in absurd (omega (arith, w)))) in
    omega (arith, s, n, m)
count_one p (y ∷ ys) (suc k) x e t u =
    let s = sum_by-append (λ z. cond (p z) 1 0) (y ∷ []) ys in
    let n : count_by p (y ∷ []) ≡ 0 = ap (λ b. 0 + cond b 1 0) (not_true (p y) (λ q. (let w = u 0 y refl q in absurd (omega (arith, w))))) in
    let m = count_one p ys k x e t (λ j z g q. (let w = u (suc j) z g q in omega (arith, w))) in
    omega (arith, s, n, m)

pub counts : (f : Functions) (h : Header) (xs ys : List Part) → count_by (in_part f h) (xs ++ ys) ≡ count_by (in_part f h) xs + count_by (in_part f h) ys
counts f h xs ys = sum_by-append (λ q. cond (in_part f h q) 1 0) xs ys

pub single : (f : Functions) (h : Header) (q : Part) → count_by (in_part f h) (q ∷ []) ≡ ones (value_at f q.headers (number h))
single f h q = ones_same (value_at f q.headers (number h))

-- ---- the headers of a set as one part more
pub record Last (g : Functions) (headers : ℕ) (facts : List WalkFact) (before after : List Part) : Type 0 where
  pub parts : List Part
  pub added : after ≡ before ++ parts
  pub each : (q : Part) → Contains parts q → (q.headers ≡ headers) × (q.facts.items ≡ facts) × IsFilled g headers
  pub one : (h : Header) → IsHeader h → count_by (in_part g h) parts ≡ ones (value_at g headers (number h))
  pub first : (j : ℕ) (q : Part) → slice_get parts j ≡ Some q → j ≡ 0

first_alone : {X : Type 0} (x : X) (j : ℕ) (q : X) → slice_get (x ∷ []) j ≡ Some q → j ≡ 0
first_alone x j q e = (let l = slice_get_within (x ∷ []) j q e in omega (arith, l))

last_part : (g : Functions) (headers : ℕ) (facts : List WalkFact) (before after : List Part) → AddsPart g headers facts before after → Last g headers facts before after
last_part g headers facts before after (inl a) =
    record {
      parts = [];
      added = a.1 ∙ sym (append-nil before);
      each = λ q c. absurd (in_none q c);
      one = λ h v. ap ones (sym (a.0 (number h) (number-below h v)));
      first = λ j q e. (let no : None ≡ Some q = e in absurd cc);
    }
last_part g headers facts before after (inr a) =
    let p = a.1.part in
    record {
      parts = p ∷ [];
      added = a.1.added;
      each = λ q c. let e = in_one p q c in (ap (λ (x : Part). x.headers) (sym e) ∙ a.1.headers_are, ap (λ (x : Part). x.facts.items) (sym e) ∙ a.1.facts_are, a.0);
      one = λ h v. single g h p ∙ ap (λ n. ones (value_at g n (number h))) a.1.headers_are;
      first = λ j q e. first_alone p j q e;
    }

-- ---- all parts
-- the number of a header of the domain
abbrev own_number : Functions → FactNumbers → ℕ → ℕ → Option ℕ
own_number g a domain h = if_both (value_at g a.function h) (value_at g domain h)

-- the part at this position is that of a set of the same position
record Numbered (lists : List FactList) (sets : List ValueSet) (i : ℕ) (q : Part) : Type 0 where
  set : ValueSet
  there : slice_get sets i ≡ Some set
  within : i < length sets
  is_at : get_or sets i set ≡ set
  part : IsPartBy lists set q

-- where the part of a header with this number stands; that of those without one stands behind the others
abbrev IsPlaceOf : List ValueSet → ℕ → Option ℕ → ℕ → Type 0
IsPlaceOf sets count None i = i ≡ count
IsPlaceOf sets count (Some v) i = (s : ValueSet) × (slice_get sets i ≡ Some s) × (s.value ≡ v)

module _ (g : Functions) (domain : ℕ) (facts : List FactSet) (a : FactNumbers) (sets : List ValueSet) (parts : List Part) (rest : ℕ) (all : List Part)
    (numbers : AreFactNumbers g facts a)
    (values : AreValueSets g (λ h. if_both (value_at g a.function h) (value_at g domain h)) sets)
    (zip : AllZip (IsPartBy a.lists.items) sets parts)
    (lr : rest < count_of g)
    (rest_is : IsSetOf g rest (λ h. InSet g domain h × (InSet g a.function h → ⊥)))
    (last : Last g rest [] parts all) where
  numbered : (i : ℕ) (q : Part) → slice_get parts i ≡ Some q → Numbered a.lists.items sets i q
  numbered i q e =
      let z = zip_at (IsPartBy a.lists.items) sets parts i q zip e in
      record { set = z.0; there = z.1; within = slice_get_within sets i z.0 z.1; is_at = get_or_from_slice_get sets i z.0 z.0 z.1; part = z.2 }

  -- the headers of a part have its number
  number_at : (i : ℕ) (q : Part) (n : Numbered a.lists.items sets i q) (h : ℕ) → IsSome (value_at g q.headers h) → own_number g a domain h ≡ Some n.set.value
  number_at i q n h s =
      let headers : (get_or sets i n.set).set ≡ q.headers = ap (λ (x : ValueSet). x.set) n.is_at ∙ sym n.part.headers_are in
      in_value_set g (own_number g a domain) sets values i n.set n.within h (subst (λ k. IsSome (value_at g k h)) (sym headers) s) ∙ ap (λ (x : ValueSet). Some x.value) n.is_at

  value_once : (i j : ℕ) (s u : ValueSet) → slice_get sets i ≡ Some s → slice_get sets j ≡ Some u → s.value ≡ u.value → i ≡ j
  value_once i j s u p q e =
      let si = get_or_from_slice_get sets i s s p in
      let uj = get_or_from_slice_get sets j u s q in
      let vi : (get_or sets i s).value ≡ s.value = ap (λ (x : ValueSet). x.value) si in
      let vj : (get_or sets j s).value ≡ u.value = ap (λ (x : ValueSet). x.value) uj in
      elim (cases_order i j) [
        | inl y ↦ y
        | inr o ↦ elim o [
          | inl l ↦ (let r = values.rising i j s l (slice_get_within sets j u q) in absurd (omega (arith, r, vi, vj, e)))
          | inr l ↦ (let r = values.rising j i s l (slice_get_within sets i s p) in absurd (omega (arith, r, vi, vj, e)))
        ]
      ]

  -- each header with a number is in one of the parts
  numbered_part : (h v : ℕ) → own_number g a domain h ≡ Some v → (i : ℕ) × (q : Part) × (slice_get parts i ≡ Some q) × IsSome (value_at g q.headers h)
  numbered_part h v e =
      let o = in_one_set g (own_number g a domain) sets values h v e in
      let d : ValueSet = record { value = 0; set = 0 } in
      let s = get_or sets o.0 d in
      let z = zip_from (IsPartBy a.lists.items) sets parts o.0 s zip (slice_get-get_or sets o.0 d o.1) in
      let t : value_at g z.0.headers h ≡ Some 1 = ap (λ k. value_at g k h) z.2.headers_are ∙ (o.2 d).1 in
      (o.0, z.0, z.1, subst (λ x. IsSome x) (sym t) refl)

  numbered_count : (h : Header) (o : Option ℕ) → own_number g a domain (number h) ≡ o → count_by (in_part g h) parts ≡ ones o
  numbered_count h None e =
      count_none (in_part g h) parts (λ j q p t.
      let s = number_at j q (numbered j q p) (number h) (is_there (value_at g q.headers (number h)) t) in
      let no : None ≡ Some (numbered j q p).set.value = sym e ∙ s in
      absurd cc)
  numbered_count h (Some v) e =
      let z = numbered_part (number h) v e in
      count_one (in_part g h) parts z.0 z.1 z.2 (is_true (value_at g z.1.headers (number h)) z.3) (λ j q p t.
      let m = numbered j q p in
      let n = numbered z.0 z.1 z.2 in
      let s = number_at j q m (number h) (is_there (value_at g q.headers (number h)) t) in
      let u = number_at z.0 z.1 n (number h) z.3 in
      let same : Some m.set.value ≡ Some n.set.value = sym s ∙ u in
      let one : m.set.value ≡ n.set.value = cc in
      value_once j z.0 m.set n.set m.there n.there one)

  part_below : (q : Part) → Contains all q → q.headers < count_of g
  part_below q c = elim (Contains-append_cases parts last.parts q (subst (λ ps. Contains ps q) last.added c)) [
    | inl d ↦ (
        let i = get_at parts q d in
        let n = numbered i.0 q i.1 in
        let l = values.below i.0 n.set n.within in
        subst (λ k. k < count_of g) (ap (λ (x : ValueSet). x.set) n.is_at ∙ sym n.part.headers_are) l)
    | inr d ↦ subst (λ k. k < count_of g) (sym (last.each q d).0) lr
  ]

  numbered_some : (i : ℕ) (q : Part) → slice_get parts i ≡ Some q → IsFilled g q.headers
  numbered_some i q e none =
      let n = numbered i q e in
      let s = values.some i n.set n.within in
      let headers : (get_or sets i n.set).set ≡ q.headers = ap (λ (y : ValueSet). y.set) n.is_at ∙ sym n.part.headers_are in
      let o = in_one_set g (own_number g a domain) sets values s.0 (get_or sets i n.set).value s.2 in
      let d : ValueSet = n.set in
      let there : slice_get sets o.0 ≡ Some (get_or sets o.0 d) = slice_get-get_or sets o.0 d o.1 in
      let here_at : slice_get sets i ≡ Some (get_or sets i d) = slice_get-get_or sets i d n.within in
      let same = value_once o.0 i (get_or sets o.0 d) (get_or sets i d) there here_at (o.2 d).0 in
      let one : value_at g (get_or sets i d).set s.0 ≡ Some 1 = subst (λ k. value_at g (get_or sets k d).set s.0 ≡ Some 1) same (o.2 d).1 in
      let q_one : value_at g q.headers s.0 ≡ Some 1 = subst (λ k. value_at g k s.0 ≡ Some 1) headers one in
      not_both (value_at g q.headers s.0) q_one (none s.0 s.1)

  part_some : (q : Part) → Contains all q → IsFilled g q.headers
  part_some q c = elim (Contains-append_cases parts last.parts q (subst (λ ps. Contains ps q) last.added c)) [
    | inl d ↦ (let i = get_at parts q d in numbered_some i.0 q i.1)
    | inr d ↦ subst (IsFilled g) (sym (last.each q d).0) (last.each q d).2
  ]

  numbered_value : (i : ℕ) (q : Part) (n : Numbered a.lists.items sets i q) (h : ℕ) → IsSome (value_at g q.headers h) → value_at g a.function h ≡ Some n.set.value
  numbered_value i q n h s = first_of_both (value_at g a.function h) (value_at g domain h) n.set.value (number_at i q n h s)

  rest_value : (q : Part) (h : Header) → Contains last.parts q → IsHeader h → InSet g q.headers h → value_at g a.function (number h) ≡ None
  rest_value q h c v s =
      let r = (rest_is h v).0 (subst (λ k. InSet g k h) (last.each q c).0 s) in
      not_some (value_at g a.function (number h)) r.1

  -- a part has the facts that its headers' number tells
  tells : (q : Part) (h : Header) → Contains all q → IsHeader h → InSet g q.headers h → q.facts.items ≡ facts_told g a h
  tells q h c v s = elim (Contains-append_cases parts last.parts q (subst (λ ps. Contains ps q) last.added c)) [
    | inl d ↦ (
        let i = get_at parts q d in
        let n = numbered i.0 q i.1 in
        n.part.facts_are ∙ ap (facts_by a.lists.items) (sym (numbered_value i.0 q n (number h) s)))
    | inr d ↦ (last.each q d).1 ∙ ap (facts_by a.lists.items) (sym (rest_value q h d v s))
  ]

  part_exact : (q : Part) (h : Header) → Contains all q → IsHeader h → InSet g q.headers h → (x : WalkFact) → Contains q.facts.items x ↔ HasFact g facts h x
  part_exact q h c v s x =
      let e = tells q h c v s in
      let n = numbers.exact h v x in
      (λ d. n.0 (subst (λ fs. Contains fs x) e d), λ d. subst (λ fs. Contains fs x) (sym e) (n.1 d))

  one_place : (o : Option ℕ) (i j : ℕ) → IsPlaceOf sets (length parts) o i → IsPlaceOf sets (length parts) o j → i ≡ j
  one_place None i j p q = p ∙ sym q
  one_place (Some v) i j p q = value_once i j p.0 q.0 p.1 q.1 (p.2 ∙ sym q.2)

  placed : (i : ℕ) (q : Part) (h : Header) → slice_get all i ≡ Some q → IsHeader h → InSet g q.headers h → IsPlaceOf sets (length parts) (value_at g a.function (number h)) i
  placed i q h e v s = elim (get_cases parts last.parts i q (subst (λ ps. slice_get ps i ≡ Some q) last.added e)) [
    | inl d ↦ (
        let n = numbered i q d in
        subst (λ o. IsPlaceOf sets (length parts) o i) (sym (numbered_value i q n (number h) s)) (n.set, n.there, refl))
    | inr d ↦ (
        let first = last.first d.0 q d.2 in
        let behind = d.1 in
        let place : i ≡ length parts = omega (arith, first, behind) in
        subst (λ o. IsPlaceOf sets (length parts) o i) (sym (rest_value q h (from_get last.parts d.0 q d.2) v s)) place)
  ]

  part_apart : (i j : ℕ) (q r : Part) → slice_get all i ≡ Some q → slice_get all j ≡ Some r → TellAlike q r → i ≡ j
  part_apart i j q r ei ej alike = elim (cases_eq i j) [
    | inl y ↦ y
    | inr n ↦ (
        let cq = from_get all i q ei in
        let cr = from_get all j r ej in
        absurd (part_some q cq (empty_set g q.headers (λ h v s. part_some r cr (empty_set g r.headers (λ k w u.
        let same = numbers.same h k v w (λ x. (let a1 = part_exact q h cq v s x in let b1 = part_exact r k cr w u x in (λ d. b1.0 ((alike x).0 (a1.1 d)), λ d. a1.0 ((alike x).1 (b1.1 d))))) in
        n (one_place (value_at g a.function (number k)) i j (subst (λ o. IsPlaceOf sets (length parts) o i) same (placed i q h ei v s)) (placed j r k ej w u))))))))
  ]

  pub parts_told : AreParts g domain facts all
  parts_told =
      record {
        below = part_below;
        some = part_some;
        one = λ h v.
            ap (λ ps. count_by (in_part g h) ps) last.added
            ∙ (counts g h parts last.parts
            ∙ ((λ i. numbered_count h (own_number g a domain (number h)) refl i + last.one h v i)
            ∙ ones_split (own_number g a domain (number h)) (value_at g rest (number h)) (value_at g domain (number h)) (InSet g a.function h) (both_some (value_at g a.function (number h)) (value_at g domain (number h))) (rest_is h v) (in_or_not g a.function h)));
        exact = part_exact;
        apart = part_apart;
      }

-- in the table that grew
pub parts_numbered : (f0 f1 f2 g : Functions) (domain : ℕ) (facts : List FactSet) (a : FactNumbers) (sets : List ValueSet) (parts : List Part) (rest : ℕ) (all : List Part) → Keeps f0 f1 → Keeps f1 f2 → Keeps f2 g → domain < count_of f0 → AreFactsBelow f1 facts → AreFactNumbers f1 facts a → AreValueSets f2 (λ h. if_both (value_at f1 a.function h) (value_at f1 domain h)) sets → AllZip (IsPartBy a.lists.items) sets parts → rest < count_of g → IsSetOf g rest (λ h. InSet f2 domain h × (InSet f2 a.function h → ⊥)) → AddsPart g rest [] parts all → AreParts g domain facts all
parts_numbered f0 f1 f2 g domain facts a sets parts rest all k0 k1 k2 ld below n v zip lr rest_is last =
    let k = keeps_then f1 f2 g k1 k2 in
    let l1 = kept_below f0 f1 domain k0 ld in
    let p : (h : ℕ) → value_at f1 a.function h ≡ value_at g a.function h = λ h. sym (k.value a.function n.below h) in
    let q : (h : ℕ) → value_at f1 domain h ≡ value_at g domain h = λ h. sym (k.value domain l1 h) in
    let same : (λ h. if_both (value_at f1 a.function h) (value_at f1 domain h)) ≡ (λ h. if_both (value_at g a.function h) (value_at g domain h)) = λ i h. if_both (p h i) (q h i) in
    let values = subst (λ z. AreValueSets g z sets) same (value_sets_kept f2 g (λ h. if_both (value_at f1 a.function h) (value_at f1 domain h)) sets k2 v) in
    parts_told g domain facts a sets parts rest all (numbers_kept f1 g facts a k below n) values zip lr (λ h u.
    let d = kept_set f2 g domain h k2 (kept_below f1 f2 domain k1 l1) in
    let e = kept_set f2 g a.function h k2 (kept_below f1 f2 a.function k1 n.below) in
    (λ s. (let x = (rest_is h u).0 s in (d.1 x.0, λ y. x.1 (e.0 y))), λ s. (rest_is h u).1 (d.0 s.0, λ y. s.1 (e.1 y)))) (last_part g rest [] parts all last)
