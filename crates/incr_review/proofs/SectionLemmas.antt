-- From regions to the pairs of labels of headers.
use Rattle.std.proofs.Common.{ℕ, zero, suc, ◌≡◌, ◌<◌, ◌≤◌, ◌^◌, ◌==◌, ◌&&◌, inl, inr, Bool, true, false, cond, is_some, List, [], ◌∷◌, ◌++◌, Option, Some, None, IsSome, length, take, get_or, slice_get, ◌+◌, refl, ap, sym, ◌∙◌, subst, arith}
use Rattle.std.specs.Prelude.{Contains, count_by}
use Rattle.std.specs.Option.{option_or}
use Rattle.std.specs.List.{AllZip}
use Rattle.std.proofs.lemmas.Bool.Decides.{nat_tests}
use Rattle.std.proofs.lemmas.List.{map-append, take_more}
use denote.Ref.{Bor}
use Rattle.std.proofs.lemmas.List.Elements.{Contains-append_cases, Contains-append_left, Contains-append_right}
use Rattle.hdr_bits.specs.HeaderBits.{number, header_of}
use Rattle.hdr_bits.specs.Lists.{Extends}
use Rattle.hdr_bits.proofs.Numbers.{number-header_of, header_of-is_header}
use Rattle.cube_diagram.specs.Combined.{if_both}
use Rattle.cube_diagram.specs.Entries.{first_value}
use Rattle.cube_diagram.specs.Functions.{Functions, Keeps, count_of, value_at}
use Rattle.net_types.specs.declared.network.Place.{Place}
use Rattle.net_types.specs.declared.network.Row.{Row}
use Rattle.net_types.specs.declared.network.Section.{Section}
use Rattle.net_types.specs.World.{World}
use Rattle.net_types.specs.Report.{affected, labels_if_other, IsSection}
use Rattle.net_types.proofs.LabelLaws.{none_if_same, pair_if_other}
use Rattle.net_types.proofs.Members.{here, there, in_one, to_map}
use Rattle.pair_rows.specs.declared.function.PairFunction.{PairFunction}
use Rattle.pair_rows.specs.Pairs.{Pair, IsNumberOf, AreRowsWithPairs}
use Rattle.pair_rows.specs.Functions.{IsFunctionOf}
use Rattle.set_walk.specs.Sets.{InSet}
use Rattle.incr_review.specs.declared.regions.Region.{Region}
use Rattle.incr_review.specs.Parts.{has_header}
use Rattle.incr_review.specs.Regions.{in_region, AreReviewed}
use Rattle.incr_review.specs.Sections.{pair_of, regions_at, AreDiffering, HasPair, ArePairsOf, IsNumbered, NumbersPair, AddsPair}
use Rattle.incr_review.proofs.RegionLemmas.{split_count}
use Rattle.incr_review.proofs.ListLemmas.{zip_more}

no_value : IsSome {T = ℕ} None → ⊥
no_value e = cc

-- ---- numbers
or_none : (x : Option ℕ) → option_or x None ≡ x
or_none None = refl
or_none (Some v) = refl

pub numbered_is : (f m k : Functions) (function set next inside r : ℕ) → Keeps f m → function < count_of f → ((h : ℕ) → value_at m inside h ≡ if_both (Some next) (value_at f set h)) → ((h : ℕ) → value_at k r h ≡ first_value (value_at m) (function ∷ inside ∷ []) h) → IsNumbered f function set next k r
numbered_is f m k function set next inside r p la two first h =
    first h ∙ (ap (option_or (value_at m function h)) (or_none (value_at m inside h)) ∙ (ap (λ x. option_or x (value_at m inside h)) (p.value function la h) ∙ ap (option_or (value_at f function h)) (two h)))

-- ---- one region more
has_more : (fs : Functions) (slot : ℕ) (rs all : List Region) (h : ℕ) (pair more : Option Pair) → ((r : Region) → Contains rs r → Contains all r) → more ≡ pair → HasPair fs slot rs h pair → HasPair fs slot all h more
has_more fs slot rs all h pair more m e a = record { region = a.region; among = m a.region a.among; slot_is = a.slot_is; inside = a.inside; is = e ∙ a.is }

in_front : {A : Type 0} (xs bs : List A) (k : ℕ) → IsSome (slice_get xs k) → slice_get (xs ++ bs) k ≡ slice_get xs k
in_front [] bs k t = absurd cc
in_front (a ∷ xs) bs zero t = refl
in_front (a ∷ xs) bs (suc k) t = in_front xs bs k t

extended : {A : Type 0} (xs ys : List A) (i : ℕ) → Extends xs ys → IsSome (slice_get xs i) → slice_get ys i ≡ slice_get xs i
extended xs ys i e s = ap (λ zs. slice_get zs i) e.added ∙ in_front xs e.more i s

module _ (fs : Functions) (slot : ℕ) (rs : List Region) (q : Region) (old new : PairFunction) (before : ArePairsOf fs slot rs old) where
  here_q : Contains (rs ++ q ∷ []) q
  here_q = Contains-append_right rs (q ∷ []) q (here q [])

  -- a region at another ingress tells nothing
  pub pairs_passed : (q.slot ≡ slot → ⊥) → new ≡ old → ArePairsOf fs slot (rs ++ q ∷ []) new
  pairs_passed other e =
      subst (ArePairsOf fs slot (rs ++ q ∷ [])) (sym e) (record {
        number = λ h n l v. (let o = before.number h n l v in (has_more fs slot rs (rs ++ q ∷ []) h _ _ (Contains-append_left rs (q ∷ [])) refl o.0, o.1));
        none = λ h r l v c s i. elim (Contains-append_cases rs (q ∷ []) r c) [
          | inl d ↦ before.none h r l v d s i
          | inr d ↦ absurd (other (ap (λ (x : Region). x.slot) (in_one q r d) ∙ s))
        ];
        distinct = before.distinct;
      })

  same_labels : q.old ≡ q.new → new ≡ old → ArePairsOf fs slot (rs ++ q ∷ []) new
  same_labels same e =
      subst (ArePairsOf fs slot (rs ++ q ∷ [])) (sym e) (record {
        number = λ h n l v. (let o = before.number h n l v in (has_more fs slot rs (rs ++ q ∷ []) h _ _ (Contains-append_left rs (q ∷ [])) refl o.0, o.1));
        none = λ h r l v c s i. elim (Contains-append_cases rs (q ∷ []) r c) [
          | inl d ↦ before.none h r l v d s i
          | inr d ↦ subst (λ (x : Region). pair_of x ≡ None) (in_one q r d) (none_if_same q.old q.new same)
        ];
        distinct = before.distinct;
      })

  other_labels : q.slot ≡ slot → (q.old ≡ q.new → ⊥) → NumbersPair fs q old new → ArePairsOf fs slot (rs ++ q ∷ []) new
  other_labels at differ m =
      record {
        number = λ h n l v. by_number h n l (value_at old.table old.function h) refl (value_at fs q.headers h) refl (sym (m.exact h) ∙ v);
        none = λ h r l v c s i.
            let e : option_or (value_at old.table old.function h) (if_both (Some m.index) (value_at fs q.headers h)) ≡ None = sym (m.exact h) ∙ v in
            let x = both_none (value_at old.table old.function h) (value_at fs q.headers h) e in
            elim (Contains-append_cases rs (q ∷ []) r c) [
              | inl d ↦ before.none h r l x.0 d s i
              | inr d ↦ absurd (no_value (subst (λ o. IsSome o) x.1 (subst (λ (z : Region). IsSome (value_at fs z.headers h)) (sym (in_one q r d)) i)))
            ];
        distinct = m.distinct;
      }
    where
      both_none : (a b : Option ℕ) → option_or a (if_both (Some m.index) b) ≡ None → (a ≡ None) × (b ≡ None)
      both_none None None e = (refl, refl)
      both_none None (Some w) e = (let z : Some m.index ≡ None = e in absurd cc)
      both_none (Some v) b e = (let z : Some v ≡ None = e in absurd cc)

      by_number : (h n : ℕ) → h < 2 ^ 112 → (a : Option ℕ) → value_at old.table old.function h ≡ a → (b : Option ℕ) → value_at fs q.headers h ≡ b → option_or (value_at old.table old.function h) (if_both (Some m.index) (value_at fs q.headers h)) ≡ Some n → HasPair fs slot (rs ++ q ∷ []) h (slice_get new.pairs n) × IsSome (slice_get new.pairs n)
      by_number h n l (Some v) ea b eb e =
          let z : Some v ≡ Some n = sym (ap (λ o. option_or o (if_both (Some m.index) (value_at fs q.headers h))) ea) ∙ e in
          let same : v ≡ n = cc in
          let o = before.number h n l (ea ∙ ap Some same) in
          let x = extended old.pairs new.pairs n m.extends o.1 in
          (has_more fs slot rs (rs ++ q ∷ []) h (slice_get old.pairs n) (slice_get new.pairs n) (Contains-append_left rs (q ∷ [])) x o.0, subst (λ y. IsSome y) (sym x) o.1)
      by_number h n l None ea (Some w) eb e =
          let z : Some m.index ≡ Some n = sym (ap (λ o. option_or o (if_both (Some m.index) (value_at fs q.headers h))) ea ∙ ap (λ o. if_both (Some m.index) o) eb) ∙ e in
          let same : m.index ≡ n = cc in
          let there : slice_get new.pairs n ≡ Some (q.old, q.new) = subst (λ k. slice_get new.pairs k ≡ Some (q.old, q.new)) same m.there in
          (record { region = q; among = here_q; slot_is = at; inside = subst (λ o. IsSome o) (sym eb) refl; is = there ∙ sym (pair_if_other q.old q.new differ) }, subst (λ y. IsSome y) (sym there) refl)
      by_number h n l None ea None eb e =
          (let z : None ≡ Some n = sym (ap (λ o. option_or o (if_both (Some m.index) (value_at fs q.headers h))) ea ∙ ap (λ o. if_both (Some m.index) o) eb) ∙ e in absurd cc)

  pub pairs_more : q.slot ≡ slot → AddsPair fs q old new → ArePairsOf fs slot (rs ++ q ∷ []) new
  pairs_more at (inl a) = same_labels a.0 a.1
  pairs_more at (inr a) = other_labels at a.0 a.1

-- ---- the regions whose labels differ
pub differing_more : (rs ds : List Region) (q : Region) → AreDiffering rs ds → AreDiffering (rs ++ q ∷ []) (ds ++ q ∷ [])
differing_more rs ds q a =
    record {
      from = λ r c. elim (Contains-append_cases ds (q ∷ []) r c) [ inl d ↦ Contains-append_left rs (q ∷ []) r (a.from r d) | inr d ↦ Contains-append_right rs (q ∷ []) r d ];
      rest = λ r c. elim (Contains-append_cases rs (q ∷ []) r c) [
        | inl d ↦ elim (a.rest r d) [ inl e ↦ inl (Contains-append_left ds (q ∷ []) r e) | inr e ↦ inr e ]
        | inr d ↦ inl (Contains-append_right ds (q ∷ []) r d)
      ];
    }

pub differing_same : (rs ds : List Region) (q : Region) → q.old ≡ q.new → AreDiffering rs ds → AreDiffering (rs ++ q ∷ []) ds
differing_same rs ds q e a =
    record {
      from = λ r c. Contains-append_left rs (q ∷ []) r (a.from r c);
      rest = λ r c. elim (Contains-append_cases rs (q ∷ []) r c) [
        | inl d ↦ a.rest r d
        | inr d ↦ inr (subst (λ (x : Region). x.old ≡ x.new) (in_one q r d) e)
      ];
    }

-- the others tell nothing
pub pairs_whole : (fs : Functions) (slot : ℕ) (rs ds : List Region) (given : PairFunction) → AreDiffering rs ds → ArePairsOf fs slot ds given → ArePairsOf fs slot rs given
pairs_whole fs slot rs ds given a p =
    record {
      number = λ h n l v. (let o = p.number h n l v in (has_more fs slot ds rs h _ _ a.from refl o.0, o.1));
      none = λ h r l v c s i. elim (a.rest r c) [ inl d ↦ p.none h r l v d s i | inr e ↦ none_if_same r.old r.new e ];
      distinct = p.distinct;
    }

pub pointed_at : (rs : List (Bor Region)) (r : Bor Region) → Contains rs r → Contains (regions_at rs) r.now
pointed_at rs r c = to_map (λ (x : Bor Region). x.now) rs r c

-- one pointer more
pub pointed_more : (rs : List (Bor Region)) (i : ℕ) (r : Bor Region) → i < length rs → r ≡ get_or rs i r → regions_at (take (i + 1) rs) ≡ regions_at (take i rs) ++ r.now ∷ []
pointed_more rs i r l e =
    ap regions_at (take_more rs i r l ∙ ap (λ z. take i rs ++ z ∷ []) (sym e)) ∙ map-append (λ (x : Bor Region). x.now) (take i rs) (r ∷ [])

pub taken_more : (rs : List Region) (i : ℕ) (r : Region) → i < length rs → r ≡ get_or rs i r → take (i + 1) rs ≡ take i rs ++ r ∷ []
taken_more rs i r l e = take_more rs i r l ∙ ap (λ z. take i rs ++ z ∷ []) (sym e)

-- ---- the pairs of a review
counted : {X : Type 0} (p : X → Bool) (xs : List X) → 1 ≤ count_by p xs → (x : X) × Contains xs x × (p x ≡ true)
counted {X = X} p [] l = absurd (omega (arith, l))
counted {X = X} p (x ∷ xs) l = by (counted p xs) (p x) refl
  where
    by : (1 ≤ count_by p xs → (z : X) × Contains xs z × (p z ≡ true)) → (b : Bool) → p x ≡ b → (z : X) × Contains (x ∷ xs) z × (p z ≡ true)
    by rest true t = (x, here x xs, t)
    by rest false t =
        let s = split_count p (x ∷ []) xs in
        let n : count_by p (x ∷ []) ≡ 0 = ap (λ b. 0 + cond b 1 0) t in
        let r = rest (omega (arith, s, n, l)) in
        (r.0, there x r.0 xs r.1, r.2)

both_true : (a b : Bool) → (a && b) ≡ true → (a ≡ true) × (b ≡ true)
both_true true true e = (refl, refl)
both_true true false e = cc
both_true false b e = cc

some_from : (o : Option ℕ) → is_some o ≡ true → IsSome o
some_from None e = cc
some_from (Some v) e = refl

module _ (old new : World) (t : ℕ) (ingress : List Place) (fs : Functions) (rs : List Region) (slot : ℕ) (p : Place) (given : PairFunction)
    (at : slice_get ingress slot ≡ Some p) (within : slot < length ingress) (review : AreReviewed old new t ingress fs rs) (pairs : ArePairsOf fs slot rs given) where
  -- what the region says of the header
  told : (h : ℕ) → h < 2 ^ 112 → (r : Region) → Contains rs r → r.slot ≡ slot → IsSome (value_at fs r.headers h) → affected old new t p h ≡ pair_of r
  told h l r c s i =
      let e = number-header_of h l in
      let inside : InSet fs r.headers (header_of h) = subst (λ k. IsSome (value_at fs r.headers k)) (sym e) i in
      let o = review.right.right r p (header_of h) c (subst (λ k. slice_get ingress k ≡ Some p) (sym s) at) (header_of-is_header h) inside in
      λ k. labels_if_other (o.before k) (o.after.label_is k)

  found : (h : ℕ) → h < 2 ^ 112 → (r : Region) × Contains rs r × (r.slot ≡ slot) × IsSome (value_at fs r.headers h)
  found h l =
      let one = review.one slot (header_of h) within (header_of-is_header h) in
      let r = counted (in_region fs slot (header_of h)) rs (omega (arith, one)) in
      let b = both_true (r.0.slot == slot) (has_header fs r.0.headers (header_of h)) r.2 in
      let s : r.0.slot ≡ slot = (let y = b.0 in grind (arith, nat_tests, y)) in
      (r.0, r.1, s, subst (λ k. IsSome (value_at fs r.0.headers k)) (number-header_of h l) (some_from (value_at fs r.0.headers (number (header_of h))) b.1))

  is_number : (h : ℕ) → h < 2 ^ 112 → (o : Option ℕ) → value_at given.table given.function h ≡ o → IsNumberOf given.pairs o (affected old new t p h)
  is_number h l None e =
      let r = found h l in
      told h l r.0 r.1 r.2 r.3 ∙ pairs.none h r.0 l e r.1 r.2 r.3
  is_number h l (Some n) e =
      let a = pairs.number h n l e in
      let same : affected old new t p h ≡ slice_get given.pairs n = told h l a.0.region a.0.among a.0.slot_is a.0.inside ∙ sym a.0.is in
      (same, subst (λ o. IsSome o) (sym same) a.1)

  pub pairs_given : IsFunctionOf (affected old new t p) given
  pairs_given = record { each = λ h l. is_number h l (value_at given.table given.function h) refl }

pub is_section : (old new : World) (t : ℕ) (p : Place) (rows : List Row) → AreRowsWithPairs (affected old new t p) rows → IsSection old new t p (record { place = p; rows = rows })
is_section old new t p rows a = record { place = refl; rows = a.cubes; labels = a.pairs }

pub sections_more : (old new : World) (t : ℕ) (ingress : List Place) (i : ℕ) (d : Place) (sections : List Section) (s : Section) → i < length ingress → AllZip (IsSection old new t) (take i ingress) sections → IsSection old new t (get_or ingress i d) s → AllZip (IsSection old new t) (take (i + 1) ingress) (sections ++ s ∷ [])
sections_more old new t ingress i d sections s l a b =
    subst (λ ps. AllZip (IsSection old new t) ps (sections ++ s ∷ [])) (sym (take_more ingress i d l)) (zip_more (IsSection old new t) (take i ingress) sections (get_or ingress i d) s a b)
