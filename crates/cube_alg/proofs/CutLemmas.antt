use Rattle.std.proofs.Common.{ℕ, ◌≡◌, ◌<◌, ◌+◌, ◌-◌, ◌^◌, ◌≤◌, suc, ◌↔◌, IsNone, inl, inr, List, [], ◌∷◌, ◌++◌, Some, None, refl, ap, sym, ◌∙◌, subst, arith, bit_and, All, AllPairs, slice_get}
use Rattle.std.specs.Int.{bit_at}
use Rattle.std.specs.Int.RustNames.{bit_xor}
use Rattle.std.specs.Int.Count.{count_leading_zeros}
use Rattle.std.proofs.lemmas.Bool.{cases_eq, cases_lt}
use Rattle.std.proofs.lemmas.Nat.{leading_top, xor_lt, and_le_l}
use Rattle.std.proofs.lemmas.Nat.Bits.{bit_at_xor, bit_at_and, bit_at_above, bit_at-lt}
use Rattle.std.proofs.lemmas.List.{append_assoc, append-nil}
use Rattle.std.proofs.lemmas.List.Elements.{All-append, All-weaker, All-nil, All-cons, All-head, All-tail}
use Rattle.std.proofs.lemmas.List.Kept.{AllPairs-cons}
use Rattle.std.proofs.Math.Nat.{pow-le-pow_right}
use Rattle.hdr_bits.specs.declared.cube.Cube.{Cube}
use Rattle.hdr_bits.specs.Bits.{bit_of}
use Rattle.hdr_bits.specs.CubeBits.{IsIn, IsStar}
use Rattle.cube_alg.specs.declared.cut.Piece.{Piece}
use Rattle.cube_alg.specs.Pieces.{value_of, AreApartPieces, AreStarsAt, IsCut, AddsCut}
use Rattle.std.specs.Option.{option_or}
use Rattle.cube_alg.specs.Pairs.{Meets, HasDigit}
use Rattle.cube_alg.specs.Rest.{Narrows}
use Rattle.cube_alg.proofs.SplitLemmas.{star_free, free_star}
use Rattle.hdr_bits.proofs.Masks.{agrees_from_fixed}
use Rattle.cube_alg.proofs.ValueLemmas.{option_or-none, value_of-append, value_none, value_one, value_stop, in_wider}

-- ---- the free bit
-- bit z - 16 is the first one where the cube narrows the node
pub record IsFirst (cube node : Cube) (z : ℕ) : Type 0 where
  pub room : 16 ≤ z
  pub bit : Narrows cube node (z - 16)
  pub first : (i : ℕ) → i < z - 16 → Narrows cube node i → ⊥

-- a number from 2 ^ j up to 2 ^ (j + 1) has the bit j
top_bit : (x j : ℕ) → 2 ^ j ≤ x → x < 2 ^ suc j → bit_at x j ≡ 1
top_bit x j a b = grind arith

top_below : (x j : ℕ) → 2 ^ j ≤ x → x < 2 ^ 112 → j < 112
top_below x j a b =
    elim (cases_lt j 112) [
      | inl l ↦ l
      | inr l ↦ let p : 2 ^ 112 ≤ 2 ^ j = pow-le-pow_right {n = 2} (omega arith) l in absurd (omega arith)
    ]

-- a bit of the cube alone is a bit of both masks' difference
narrow_bit : (cube node : Cube) (i : ℕ) → Narrows cube node i → bit_at (bit_xor cube.fixed (bit_and cube.fixed node.fixed)) (111 - i) ≡ 1
narrow_bit cube node i n =
    let u = bit_at_xor cube.fixed (bit_and cube.fixed node.fixed) (111 - i) in
    let v = bit_at_and cube.fixed node.fixed (111 - i) in
    let z = star_free node i n.star in
    let d = n.digit in
    omega (arith, u, v, z, d)

pub first_free : (cube node : Cube) → 0 < bit_xor cube.fixed (bit_and cube.fixed node.fixed) → IsFirst cube node (count_leading_zeros 128 (bit_xor cube.fixed (bit_and cube.fixed node.fixed)))
first_free cube node p =
    let f = cube.fixed in
    let x = bit_xor f (bit_and f node.fixed) in
    let l : x < 2 ^ 112 = xor_lt 112 f (bit_and f node.fixed) cube.below (let y = and_le_l f node.fixed in let b = cube.below in omega (arith, y, b)) in
    let t = leading_top 128 x p (omega arith) in
    let j = t.0 in
    let z = count_leading_zeros 128 x in
    let e : z + suc j ≡ 128 = t.1 in
    let one : bit_at x j ≡ 1 = top_bit x j t.2 t.3 in
    let below : j < 112 = top_below x j t.2 l in
    let u = bit_at_xor f (bit_and f node.fixed) j in
    let v = bit_at_and f node.fixed j in
    let g : bit_at node.fixed j ≡ 0 = omega (arith, one, u, v, bit_at-lt f j, bit_at-lt node.fixed j) in
    let w : bit_at f j ≡ 1 = omega (arith, one, u, v, bit_at-lt f j, bit_at-lt node.fixed j) in
    let q : 111 - (z - 16) ≡ j = omega arith in
    record {
      room = omega arith;
      bit = record {
        within = omega arith;
        star = free_star node (z - 16) (subst (λ k. bit_at node.fixed k ≡ 0) (sym q) g);
        digit = subst (λ k. bit_at f k ≡ 1) (sym q) w;
      };
      first = λ i b n. let o = narrow_bit cube node i n in let a = bit_at_above x (suc j) (111 - i) t.3 (let m = n.within in omega arith) in omega (arith, o, a);
    }

-- ---- parts of the two halves together
pub record Halves (k : ℕ) (node low high : Cube) : Type 0 where
  pub zero_side : (h : ℕ) → IsIn low h ↔ (IsIn node h × (bit_of h k ≡ 0))
  pub one_side : (h : ℕ) → IsIn high h ↔ (IsIn node h × (bit_of h k ≡ 1))

pairs_nil : AllPairs AreApartPieces []
pairs_nil i j d a b = absurd (omega arith)

pairs_head : (x : Piece) (xs : List Piece) → AllPairs AreApartPieces (x ∷ xs) → All (AreApartPieces x) xs
pairs_head x xs a = λ k d l. a 0 (suc k) d (omega arith) (omega arith)

pairs_tail : (x : Piece) (xs : List Piece) → AllPairs AreApartPieces (x ∷ xs) → AllPairs AreApartPieces xs
pairs_tail x xs a = λ i j d l m. a (suc i) (suc j) d (omega arith) (omega arith)

pub one_of : (n : ℕ) → n < 2 → (n ≡ 0 → ⊥) → n ≡ 1
one_of n l e = omega (arith, e)

pairs_append : (xs ys : List Piece) → AllPairs AreApartPieces xs → AllPairs AreApartPieces ys → All (λ x. All (AreApartPieces x) ys) xs → AllPairs AreApartPieces (xs ++ ys)
pairs_append [] ys a b c = b
pairs_append (x ∷ xs) ys a b c =
    AllPairs-cons AreApartPieces x (xs ++ ys) (All-append (AreApartPieces x) xs ys (pairs_head x xs a) (All-head (λ q. All (AreApartPieces q) ys) x xs c)) (pairs_append xs ys (pairs_tail x xs a) b (All-tail (λ q. All (AreApartPieces q) ys) x xs c))

-- a piece fixes the bit at which the region is split, and each half fixes what the region fixes, and that bit
pub record Splits (k : ℕ) (node low high : Cube) (pieces zeros ones : List Piece) : Type 0 where
  pub low_digit : HasDigit k 0 node low
  pub high_digit : HasDigit k 1 node high
  pub fixed : AreStarsAt pieces k → ⊥
  pub zero_stars : (i : ℕ) → AreStarsAt pieces i → AreStarsAt zeros i
  pub one_stars : (i : ℕ) → AreStarsAt pieces i → AreStarsAt ones i

star_of : (k digit i : ℕ) (node half : Cube) → HasDigit k digit node half → i < 112 → (i ≡ k → ⊥) → IsStar node i → IsStar half i
star_of k digit i node half d l n s = subst (λ x. IsNone x) (sym (d.others i l n)) s

stars_join : (k : ℕ) (node low high : Cube) (pieces zeros ones first second : List Piece) → Splits k node low high pieces zeros ones → IsCut low zeros first → IsCut high ones second → (i : ℕ) → i < 112 → IsStar node i → AreStarsAt pieces i → AreStarsAt (first ++ second) i
stars_join k node low high pieces zeros ones first second d a b i l s x =
    elim (cases_eq i k) [
      | inl e ↦ absurd (d.fixed (subst (AreStarsAt pieces) e x))
      | inr n ↦ All-append (λ p. IsStar p.cube i) first second (a.stars i l (star_of k 0 i node low d.low_digit l n s) (d.zero_stars i x)) (b.stars i l (star_of k 1 i node high d.high_digit l n s) (d.one_stars i x))
    ]

pub splits : (k : ℕ) (node low high : Cube) (pieces zeros ones : List Piece) (first : Piece) → Some first ≡ slice_get pieces 0 → Narrows first.cube node k → HasDigit k 0 node low → HasDigit k 1 node high → ((i : ℕ) → AreStarsAt pieces i → AreStarsAt zeros i) → ((i : ℕ) → AreStarsAt pieces i → AreStarsAt ones i) → Splits k node low high pieces zeros ones
splits k node low high [] zeros ones first e n a b p q = absurd cc
splits k node low high (x ∷ xs) zeros ones first e n a b p q =
    record {
      low_digit = a;
      high_digit = b;
      fixed = λ s. let t : x ≡ first = cc in let z = star_free first.cube k (subst (λ y. IsStar y.cube k) t (All-head (λ y. IsStar y.cube k) x xs s)) in let d = n.digit in absurd (omega (arith, z, d));
      zero_stars = p;
      one_stars = q;
    }

pub cut_join : (k : ℕ) (node low high : Cube) (pieces zeros ones first second : List Piece) → Halves k node low high → ((h : ℕ) → IsIn low h → value_of zeros h ≡ value_of pieces h) → ((h : ℕ) → IsIn high h → value_of ones h ≡ value_of pieces h) → Splits k node low high pieces zeros ones → IsCut low zeros first → IsCut high ones second → IsCut node pieces (first ++ second)
cut_join k node low high pieces zeros ones first second s p q d a b =
    let P : Piece → Type 0 = λ x. (h : ℕ) → IsIn x.cube h → IsIn node h in
    let low_not : (h : ℕ) → IsIn low h → IsIn high h → ⊥ = λ h x y. let u = (s.zero_side h).0 x in let v = (s.one_side h).0 y in absurd (omega (arith, u.1, v.1)) in
    record {
      inside = All-append P first second (All-weaker (λ x. (h : ℕ) → IsIn x.cube h → IsIn low h) P (λ x f h i. ((s.zero_side h).0 (f h i)).0) first a.inside) (All-weaker (λ x. (h : ℕ) → IsIn x.cube h → IsIn high h) P (λ x f h i. ((s.one_side h).0 (f h i)).0) second b.inside);
      apart = pairs_append first second a.apart b.apart (All-weaker (λ x. (h : ℕ) → IsIn x.cube h → IsIn low h) (λ x. All (AreApartPieces x) second) (λ x f. All-weaker (λ y. (h : ℕ) → IsIn y.cube h → IsIn high h) (AreApartPieces x) (λ y g h i j. low_not h (f h i) (g h j)) second b.inside) first a.inside);
      exact = λ h m. value_of-append first second h ∙ elim (cases_eq (bit_of h k) 0) [
        | inl e ↦ let i : IsIn low h = (s.zero_side h).1 (m, e) in
            let n : value_of second h ≡ None = value_none second h (All-weaker (λ y. (g : ℕ) → IsIn y.cube g → IsIn high g) (λ y. IsIn y.cube h → ⊥) (λ y f j. low_not h i (f h j)) second b.inside) in
            ap (λ z. option_or (value_of first h) z) n ∙ (option_or-none _ ∙ (a.exact h i ∙ p h i))
        | inr e ↦ let i : IsIn high h = (s.one_side h).1 (m, (let l = bit_at-lt h (111 - k) in one_of (bit_of h k) l e)) in
            let n : value_of first h ≡ None = value_none first h (All-weaker (λ y. (g : ℕ) → IsIn y.cube g → IsIn low g) (λ y. IsIn y.cube h → ⊥) (λ y f j. low_not h (f h j) i) first a.inside) in
            ap (λ z. option_or z (value_of second h)) n ∙ (b.exact h i ∙ q h i)
      ];
      stars = stars_join k node low high pieces zeros ones first second d a b;
    }

pub adds_join : (k : ℕ) (node low high : Cube) (pieces zeros ones old middle new : List Piece) → Halves k node low high → ((h : ℕ) → IsIn low h → value_of zeros h ≡ value_of pieces h) → ((h : ℕ) → IsIn high h → value_of ones h ≡ value_of pieces h) → Splits k node low high pieces zeros ones → AddsCut low zeros old middle → AddsCut high ones middle new → AddsCut node pieces old new
adds_join k node low high pieces zeros ones old middle new s p q d a b =
    record {
      parts = a.parts ++ b.parts;
      added = b.added ∙ (ap (λ x. x ++ b.parts) a.added ∙ append_assoc old a.parts b.parts);
      cut = cut_join k node low high pieces zeros ones a.parts b.parts s p q d a.cut b.cut;
    }

-- ---- one part
pub adds_one : (node : Cube) (pieces old : List Piece) (piece : Piece) → piece.cube ≡ node → ((h : ℕ) → IsIn node h → value_of pieces h ≡ Some piece.value) → AddsCut node pieces old (old ++ piece ∷ [])
adds_one node pieces old piece e v =
    record {
      parts = piece ∷ [];
      added = refl;
      cut = record {
        inside = All-cons (λ x. (h : ℕ) → IsIn x.cube h → IsIn node h) piece [] (λ h i. subst (λ c. IsIn c h) e i) (All-nil _);
        apart = AllPairs-cons AreApartPieces piece [] (All-nil _) pairs_nil;
        exact = λ h m. value_one piece h (subst (λ c. IsIn c h) (sym e) m) ∙ sym (v h m);
        stars = λ k l s a. All-cons (λ x. IsStar x.cube k) piece [] (subst (λ c. IsStar c k) (sym e) s) (All-nil _);
      };
    }

pub adds_none : (node : Cube) (pieces old : List Piece) → pieces ≡ [] → AddsCut node pieces old old
adds_none node pieces old e =
    record {
      parts = [];
      added = sym (append-nil old);
      cut = record {
        inside = All-nil _;
        apart = pairs_nil;
        exact = λ h m. ap (λ x. value_of x h) (sym e);
        stars = λ k l s a. All-nil _;
      };
    }

-- ---- the returns of the code
pub adds_empty : (node : Cube) (pieces old : List Piece) → None ≡ slice_get pieces 0 → AddsCut node pieces old old
adds_empty node [] old e = adds_none node [] old refl
adds_empty node (p ∷ ps) old e = absurd cc

pub first_value : (node : Cube) (pieces : List Piece) (first : Piece) → Some first ≡ slice_get pieces 0 → All (λ p. Meets p.cube node) pieces → bit_and first.cube.fixed node.fixed ≡ first.cube.fixed → (h : ℕ) → IsIn node h → value_of pieces h ≡ Some first.value
first_value node [] first e a w h m = absurd cc
first_value node (p ∷ ps) first e a w h m =
    let s : first ≡ p = cc in
    let n : Meets p.cube node = All-head (λ q. Meets q.cube node) p ps a in
    let w' : bit_and p.cube.fixed node.fixed ≡ p.cube.fixed = subst (λ q. bit_and q.cube.fixed node.fixed ≡ q.cube.fixed) s w in
    value_stop (p ∷ ps) 0 p h (omega arith) refl (in_wider p node h n w' m) ∙ ap (λ q. Some q.value) (sym s)

pub split_halves : (k : ℕ) (node : Cube) (r : Cube × Cube) → ((h : ℕ) → IsIn r.0 h ↔ (IsIn node h × (bit_of h k ≡ 0))) → ((h : ℕ) → IsIn r.1 h ↔ (IsIn node h × (bit_of h k ≡ 1))) → Halves k node r.0 r.1
split_halves k node r a b = record { zero_side = a; one_side = b }

-- the cube of all headers has each
pub in_all : (all : Cube) (h : ℕ) → ((k : ℕ) → k < 112 → IsStar all k) → IsIn all h
in_all all h f = λ k l. agrees_from_fixed all h k (λ e. let z = star_free all k (f k l) in absurd (omega (arith, e, z)))

-- what was added to nothing
pub cut_of_added : {node : Cube} {pieces old new : List Piece} → AddsCut node pieces old new → old ≡ [] → IsCut node pieces new
cut_of_added {node} {pieces} {old} {new} a e = subst (IsCut node pieces) (sym (a.added ∙ ap (λ x. x ++ a.parts) e)) a.cut
