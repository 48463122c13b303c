use Rattle.std.proofs.Common.{ℕ, zero, suc, ◌≡◌, ◌≢◌, ◌<◌, ◌-◌, ◌⊎◌, inl, inr, Option, Some, None, IsNone, List, [], ◌∷◌, ◌++◌, refl, ap, sym, ◌∙◌, subst, arith, bit_and, All, AllPairs, Any, Contains}
use Rattle.std.specs.List.{AllZip}
use Rattle.std.specs.Int.{bit_at}
use Rattle.std.specs.Option.{option_or}
use Rattle.std.proofs.lemmas.Bool.{cases_eq, cases_lt}
use Rattle.std.proofs.lemmas.Nat.Bits.{bit_at_and, bit_at-lt}
use Rattle.std.proofs.lemmas.List.{append_assoc, append-nil}
use Rattle.std.proofs.lemmas.List.Elements.{All-nil, All-cons, All-head, All-tail, All-weaker, All-contains_itself}
use Rattle.std.proofs.lemmas.List.Kept.{AllPairs-cons}
use Rattle.hdr_bits.specs.declared.cube.Cube.{Cube}
use Rattle.hdr_bits.specs.Bits.{bit_of}
use Rattle.hdr_bits.specs.CubeBits.{digit_at, IsIn, IsStar}
use Rattle.hdr_bits.proofs.Masks.{in_from_mask, mask_from_in, fixed_from_agrees}
use Rattle.cube_alg.specs.Pairs.{Meets, Overlap, AreApart, IsInside, HasDigit}
use Rattle.hdr_bits.specs.Lists.{Extends}
use Rattle.cube_alg.specs.Rest.{Narrows, IsPartAt, AreParts, AreRest, AddsRest, AddsNarrowing}
use Rattle.cube_alg.proofs.MaskLemmas.{meets_of_both, meets_of_overlap, inside_of_wider}
use Rattle.cube_alg.proofs.SplitLemmas.{star_free, digit_there, digit_star}
use Rattle.cube_alg.proofs.CutLemmas.{Halves, one_of}

pairs_nil : AllPairs AreApart []
pairs_nil i j d a b = absurd (omega arith)

-- what is taken from a, where the rest has all that b has of it
pub record Step (a b taken kept : Cube) : Type 0 where
  pub part : (h : ℕ) → IsIn taken h → IsIn a h
  pub other : (h : ℕ) → IsIn kept h → IsIn a h
  pub outside : (h : ℕ) → IsIn taken h → IsIn b h → ⊥
  pub apart : (h : ℕ) → IsIn taken h → IsIn kept h → ⊥
  pub either : (h : ℕ) → IsIn a h → IsIn taken h ⊎ IsIn kept h
  pub keeps : (h : ℕ) → IsIn a h → IsIn b h → IsIn kept h

any_more : (h : ℕ) (c : Cube) (cs : List Cube) → Any (λ d. IsIn d h) cs → Any (λ d. IsIn d h) (c ∷ cs)
any_more h c cs a = (suc a.0, a.1, omega (arith, a.2), a.3, a.4)

pub rest_step : (a b taken kept : Cube) (cs : List Cube) → Step a b taken kept → AreRest kept b cs → AreRest a b (taken ∷ cs)
rest_step a b taken kept cs s r =
    record {
      apart = AllPairs-cons AreApart taken cs (All-weaker (λ c. IsInside c kept) (AreApart taken) (λ c f h i j. s.apart h i (f h j)) cs r.inside) r.apart;
      inside = All-cons (λ c. IsInside c a) taken cs s.part (All-weaker (λ c. IsInside c kept) (λ c. IsInside c a) (λ c f h i. s.other h (f h i)) cs r.inside);
      outside = All-cons (λ c. AreApart c b) taken cs s.outside r.outside;
      covers = λ h i n. elim (s.either h i) [
        | inl t ↦ (0, taken, omega arith, refl, t)
        | inr k ↦ any_more h taken cs (r.covers h k n)
      ];
    }

pub rest_all : (a b : Cube) → (Meets a b → ⊥) → AreRest a b (a ∷ [])
rest_all a b n =
    record {
      apart = AllPairs-cons AreApart a [] (All-nil (AreApart a)) pairs_nil;
      inside = All-cons (λ c. IsInside c a) a [] (λ h i. i) (All-nil _);
      outside = All-cons (λ c. AreApart c b) a [] (λ h i j. n (meets_of_both a b h (mask_from_in a h i) (mask_from_in b h j))) (All-nil _);
      covers = λ h i m. (0, a, omega arith, refl, i);
    }

pub rest_none : (a b : Cube) → Overlap a b → bit_and b.fixed a.fixed ≡ b.fixed → AreRest a b []
rest_none a b o w =
    let m : Meets b a = meets_of_overlap b a (o.0, o.2, o.1) in
    record {
      apart = pairs_nil;
      inside = All-nil _;
      outside = All-nil _;
      covers = λ h i n. absurd (n (in_from_mask b h (inside_of_wider b a h m w (mask_from_in a h i))));
    }

zero_of : (n : ℕ) → n < 2 → (n ≡ 1 → ⊥) → n ≡ 0
zero_of n l e = omega (arith, e)

pub step_one : (k : ℕ) (a b low high : Cube) → k < 112 → Halves k a low high → bit_of b.fixed k ≡ 1 → bit_of b.bits k ≡ 1 → Step a b low high
step_one k a b low high l s f d =
    let one : (h : ℕ) → IsIn b h → bit_of h k ≡ 1 = λ h i. fixed_from_agrees b h k (i k l) f ∙ d in
    record {
      part = λ h i. ((s.zero_side h).0 i).0;
      other = λ h i. ((s.one_side h).0 i).0;
      outside = λ h i j. let x = ((s.zero_side h).0 i).1 in let y = one h j in absurd (omega (arith, x, y));
      apart = λ h i j. let x = ((s.zero_side h).0 i).1 in let y = ((s.one_side h).0 j).1 in absurd (omega (arith, x, y));
      either = λ h i. elim (cases_eq (bit_of h k) 0) [
        | inl z ↦ inl ((s.zero_side h).1 (i, z))
        | inr z ↦ inr ((s.one_side h).1 (i, one_of (bit_of h k) (bit_at-lt h (111 - k)) z))
      ];
      keeps = λ h i j. (s.one_side h).1 (i, one h j);
    }

pub step_zero : (k : ℕ) (a b low high : Cube) → k < 112 → Halves k a low high → bit_of b.fixed k ≡ 1 → (bit_of b.bits k ≡ 1 → ⊥) → Step a b high low
step_zero k a b low high l s f n =
    let d : bit_of b.bits k ≡ 0 = (let q = bit_at-lt b.bits (111 - k) in zero_of (bit_of b.bits k) q n) in
    let zero_bit : (h : ℕ) → IsIn b h → bit_of h k ≡ 0 = λ h i. fixed_from_agrees b h k (i k l) f ∙ d in
    record {
      part = λ h i. ((s.one_side h).0 i).0;
      other = λ h i. ((s.zero_side h).0 i).0;
      outside = λ h i j. let x = ((s.one_side h).0 i).1 in let y = zero_bit h j in absurd (omega (arith, x, y));
      apart = λ h i j. let x = ((s.one_side h).0 i).1 in let y = ((s.zero_side h).0 j).1 in absurd (omega (arith, x, y));
      either = λ h i. elim (cases_eq (bit_of h k) 0) [
        | inl z ↦ inr ((s.zero_side h).1 (i, z))
        | inr z ↦ inl ((s.one_side h).1 (i, one_of (bit_of h k) (bit_at-lt h (111 - k)) z))
      ];
      keeps = λ h i j. (s.zero_side h).1 (i, zero_bit h j);
    }

pub overlap_step : (a b taken kept : Cube) → Step a b taken kept → Overlap a b → Overlap kept b
overlap_step a b taken kept s o = (o.0, s.keeps o.0 o.1 o.2, o.2)

-- ---- the order
has_member : (x : ℕ) (xs : List ℕ) → Contains (x ∷ xs) x
has_member x xs = (0, omega arith, refl)

more_members : (x y : ℕ) (xs : List ℕ) → Contains xs y → Contains (x ∷ xs) y
more_members x y xs c = (suc c.0, omega (arith, c.1), c.2)

member_cases : (x y : ℕ) (xs : List ℕ) → Contains (x ∷ xs) y → (y ≡ x) ⊎ Contains xs y
member_cases x y xs (zero, l, e) = inl (sym e)
member_cases x y xs (suc k, l, e) = inr (k, omega (arith, l), e)

no_some : (k x : ℕ) (c : Cube) → digit_at c k ≡ Some x → IsStar c k → ⊥
no_some k x c e s = not_some x (subst IsNone e s)
  where
    not_some : (x : ℕ) → IsNone (Some x) → ⊥
    not_some x n = cc

-- what b narrows in the kept half: what it narrows in the whole, but for the bit of the cut
pub record Cut (a b : Cube) (k : ℕ) (kept : Cube) : Type 0 where
  pub narrows : Narrows b a k
  pub first : (i : ℕ) → i < k → Narrows b a i → ⊥
  pub digit : HasDigit k (bit_of b.bits k) a kept

narrows_whole : (a b kept : Cube) (k i : ℕ) → Cut a b k kept → Narrows b kept i → Narrows b a i × (i ≢ k)
narrows_whole a b kept k i c n =
    let other : i ≢ k = λ e. no_some k (bit_of b.bits k) kept c.digit.there (subst (IsStar kept) e n.star) in
    (record { within = n.within; star = subst IsNone (c.digit.others i n.within other) n.star; digit = n.digit }, other)

narrows_kept : (a b kept : Cube) (k i : ℕ) → Cut a b k kept → Narrows b a i → i ≢ k → Narrows b kept i
narrows_kept a b kept k i c n other =
    record { within = n.within; star = subst IsNone (sym (c.digit.others i n.within other)) n.star; digit = n.digit }

comes_behind : (a b kept : Cube) (k i : ℕ) → Cut a b k kept → Narrows b kept i → k < i
comes_behind a b kept k i c n =
    let w = narrows_whole a b kept k i c n in
    let d = w.1 in
    elim (cases_lt i k) [
      | inl l ↦ absurd (c.first i l w.0)
      | inr l ↦ omega (arith, l, d)
    ]

or_there : (a b kept : Cube) (k : ℕ) → Cut a b k kept → option_or (digit_at kept k) (digit_at b k) ≡ option_or (digit_at a k) (digit_at b k)
or_there a b kept k c =
    let s : digit_at a k ≡ None = none_digit a k c.narrows.star in
    let d : digit_at b k ≡ Some (bit_of b.bits k) = digit_there b k (bit_of b.bits k) c.narrows.digit refl in
    ap (λ x. option_or x (digit_at b k)) c.digit.there ∙ sym (ap (λ x. option_or x (digit_at b k)) s ∙ d)
  where
    none_digit : (a : Cube) (k : ℕ) → IsStar a k → digit_at a k ≡ None
    none_digit a k s = none_is (digit_at a k) s
      where
        none_is : (o : Option ℕ) → IsNone o → o ≡ None
        none_is None s = refl
        none_is (Some x) s = absurd cc

-- a bit that comes behind the cut
abbrev IsBehind : ℕ → ℕ → Type 0
IsBehind k i = (k < i) × (i < 112)

part_of_whole : (a b kept : Cube) (k i : ℕ) (c : Cube) → Cut a b k kept → IsBehind k i → IsPartAt kept b i c → IsPartAt a b i c
part_of_whole a b kept k i c s l p =
    record {
      before = λ j m. elim (cases_eq j k) [
        | inl e ↦ p.before j m ∙ subst (λ x. option_or (digit_at kept x) (digit_at b x) ≡ option_or (digit_at a x) (digit_at b x)) (sym e) (or_there a b kept k s)
        | inr n ↦ p.before j m ∙ ap (λ x. option_or x (digit_at b j)) (s.digit.others j (let w = l.1 in omega (arith, w, m)) n)
      ];
      differs = p.differs;
      behind = λ j m b2. p.behind j m b2 ∙ s.digit.others j b2 (λ e. let w = l.0 in omega (arith, e, m, w));
    }

parts_of_whole : (a b kept : Cube) (k : ℕ) (is : List ℕ) (cs : List Cube) → Cut a b k kept → All (IsBehind k) is → AllZip (IsPartAt kept b) is cs → AllZip (IsPartAt a b) is cs
parts_of_whole a b kept k [] [] s l z = z
parts_of_whole a b kept k [] (c ∷ cs) s l z = z
parts_of_whole a b kept k (i ∷ is) [] s l z = z
parts_of_whole a b kept k (i ∷ is) (c ∷ cs) s l z =
    (part_of_whole a b kept k i c s (All-head (IsBehind k) i is l) z.0, parts_of_whole a b kept k is cs s (All-tail (IsBehind k) i is l) z.1)

first_some : (o q : Option ℕ) → (o ≡ None → q ≡ None) → o ≡ option_or o q
first_some None q f = sym (f refl)
first_some (Some x) q f = refl

not_narrowed : (a b : Cube) (i : ℕ) → i < 112 → (Narrows b a i → ⊥) → digit_at a i ≡ option_or (digit_at a i) (digit_at b i)
not_narrowed a b i w f =
    first_some (digit_at a i) (digit_at b i) (λ e. elim (cases_eq (bit_of b.fixed i) 0) [
      | inl z ↦ digit_star b i z
      | inr n ↦ absurd (f (record { within = w; star = subst IsNone (sym e) refl; digit = one_of (bit_of b.fixed i) (bit_at-lt b.fixed (111 - i)) n }))
    ])

part_here : (a b taken : Cube) (k : ℕ) → Narrows b a k → ((i : ℕ) → i < k → Narrows b a i → ⊥) → HasDigit k (1 - bit_of b.bits k) a taken → IsPartAt a b k taken
part_here a b taken k n f d =
    record {
      before = λ i l. let w : i < 112 = (let x = n.within in omega (arith, x, l)) in d.others i w (λ e. omega (arith, e, l)) ∙ not_narrowed a b i w (f i l);
      differs = d.there;
      behind = λ i l m. d.others i m (λ e. omega (arith, e, l));
    }

parts_step : (a b taken kept : Cube) (k : ℕ) (cs : List Cube) → Cut a b k kept → HasDigit k (1 - bit_of b.bits k) a taken → AreParts kept b cs → AreParts a b (taken ∷ cs)
parts_step a b taken kept k cs s d r =
    let behind : All (IsBehind k) r.bits = All-weaker (Contains r.bits) (IsBehind k) (λ i m. let n = (r.narrowed i).0 m in (comes_behind a b kept k i s n, n.within)) r.bits (All-contains_itself r.bits) in
    record {
      bits = k ∷ r.bits;
      narrowed = λ i. (
        λ m. elim (member_cases k i r.bits m) [
          | inl e ↦ subst (Narrows b a) (sym e) s.narrows
          | inr t ↦ (narrows_whole a b kept k i s ((r.narrowed i).0 t)).0
        ],
        λ n. elim (cases_eq i k) [
          | inl e ↦ subst (Contains (k ∷ r.bits)) (sym e) (has_member k r.bits)
          | inr other ↦ more_members k i r.bits ((r.narrowed i).1 (narrows_kept a b kept k i s n other))
        ],
      );
      rising = AllPairs-cons (λ i j. i < j) k r.bits (All-weaker (IsBehind k) (λ i. k < i) (λ i l. l.0) r.bits behind) r.rising;
      parts = (part_here a b taken k s.narrows s.first d, parts_of_whole a b kept k r.bits cs s behind r.parts);
    }

no_member : (x : ℕ) → Contains [] x → ⊥
no_member x c = let l = c.1 in omega (arith, l)

no_narrow : (a b : Cube) (k : ℕ) → bit_and b.fixed a.fixed ≡ b.fixed → Narrows b a k → ⊥
no_narrow a b k e n =
    let x = bit_at_and b.fixed a.fixed (111 - k) in
    let y = ap (λ m. bit_at m (111 - k)) e in
    let z = star_free a k n.star in
    let d = n.digit in
    omega (arith, x, y, z, d)

parts_none : (a b : Cube) → bit_and b.fixed a.fixed ≡ b.fixed → AreParts a b []
parts_none a b w =
    record {
      bits = [];
      narrowed = λ k. (λ m. absurd (no_member k m), λ n. absurd (no_narrow a b k w n));
      rising = λ i j d l m. absurd (omega arith);
      parts = tt;
    }

-- ---- the returns of the code
pub record Turn (a b taken kept : Cube) (k : ℕ) : Type 0 where
  pub step : Step a b taken kept
  pub cut : Cut a b k kept
  pub taken_digit : HasDigit k (1 - bit_of b.bits k) a taken

pub turn_one : (k : ℕ) (a b low high : Cube) → Narrows b a k → ((i : ℕ) → i < k → Narrows b a i → ⊥) → Halves k a low high → HasDigit k 0 a low → HasDigit k 1 a high → bit_of b.bits k ≡ 1 → Turn a b low high k
turn_one k a b low high n f s z o e =
    record {
      step = step_one k a b low high n.within s n.digit e;
      cut = record { narrows = n; first = f; digit = subst (λ x. HasDigit k x a high) (sym e) o };
      taken_digit = subst (λ x. HasDigit k x a low) (omega (arith, e)) z;
    }

pub turn_zero : (k : ℕ) (a b low high : Cube) → Narrows b a k → ((i : ℕ) → i < k → Narrows b a i → ⊥) → Halves k a low high → HasDigit k 0 a low → HasDigit k 1 a high → (bit_of b.bits k ≡ 1 → ⊥) → Turn a b high low k
turn_zero k a b low high n f s z o d =
    let e : bit_of b.bits k ≡ 0 = (let q = bit_at-lt b.bits (111 - k) in zero_of (bit_of b.bits k) q d) in
    record {
      step = step_zero k a b low high n.within s n.digit d;
      cut = record { narrows = n; first = f; digit = subst (λ x. HasDigit k x a low) (sym e) z };
      taken_digit = subst (λ x. HasDigit k x a high) (omega (arith, e)) o;
    }

pub adds_step : (a b taken kept : Cube) (k : ℕ) (old new : List Cube) → Turn a b taken kept k → AddsNarrowing kept b (old ++ taken ∷ []) new → AddsNarrowing a b old new
adds_step a b taken kept k old new s r =
    record {
      cubes = taken ∷ r.cubes;
      added = r.added ∙ append_assoc old (taken ∷ []) r.cubes;
      rest = rest_step a b taken kept r.cubes s.step r.rest;
      order = parts_step a b taken kept k r.cubes s.cut s.taken_digit r.order;
    }

pub adds_all : (a b : Cube) (old : List Cube) → (Meets a b → ⊥) → AddsRest a b old (old ++ a ∷ [])
adds_all a b old n =
    record {
      cubes = a ∷ [];
      added = refl;
      rest = rest_all a b n;
      order = inl (λ h p q. n (meets_of_both a b h (mask_from_in a h p) (mask_from_in b h q)), refl);
    }

pub adds_nothing : (a b : Cube) (old : List Cube) → Overlap a b → bit_and b.fixed a.fixed ≡ b.fixed → AddsNarrowing a b old old
adds_nothing a b old o w =
    record { cubes = []; added = sym (append-nil old); rest = rest_none a b o w; order = parts_none a b w }

pub adds_parts : (a b : Cube) (old new : List Cube) → AddsNarrowing a b old new → AddsRest a b old new
adds_parts a b old new r = record { cubes = r.cubes; added = r.added; rest = r.rest; order = inr r.order }

pub extends_same : (old new : List Cube) → new ≡ old → Extends old new
extends_same old new e = record { more = []; added = e ∙ sym (append-nil old) }

pub extends_step : (old new : List Cube) (c : Cube) → Extends (old ++ c ∷ []) new → Extends old new
extends_step old new c e = record { more = c ∷ e.more; added = e.added ∙ append_assoc old (c ∷ []) e.more }
