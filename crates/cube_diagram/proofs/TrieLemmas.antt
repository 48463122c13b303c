-- The diagrams of pieces below a bit.
use Rattle.std.proofs.Common.{ℕ, zero, suc, ◌≡◌, ◌<◌, ◌≤◌, ◌+◌, ◌-◌, ◌*◌, ◌^◌, inl, inr, Bool, true, false, not, ◌||◌, cond, if◌then◌else◌, ◌==◌, List, [], ◌∷◌, ◌++◌, length, slice_get, get_or, take, drop, Some, None, refl, ap, sym, ◌∙◌, subst, arith, All, bit_and}
use Rattle.std.specs.Prelude.{filter}
use Rattle.std.proofs.lemmas.List.{append_assoc, append-nil}
use Rattle.std.specs.Int.{w128}
use Rattle.std.specs.Int.Count.{count_trailing_zeros}
use Rattle.std.proofs.lemmas.Bool.{cases_eq, cases_lt}
use Rattle.std.proofs.lemmas.Bool.Decides.{nat_tests}
use Rattle.std.proofs.lemmas.Nat.Bits.{bit_at-lt, bit_at-zero, bit_at-trailing_zeros, and_pow}
use Rattle.std.proofs.Math.Nat.{one-le-pow}
use Rattle.std.proofs.lemmas.List.{get_or-drop, length-drop, get_or_append_left, take_all}
use Rattle.std.proofs.lemmas.List.Elements.{All-head, All-tail, filter_more}
use Rattle.std.proofs.lemmas.Option.{slice_get_within}
use Rattle.hdr_bits.specs.Bits.{bit_of}
use Rattle.hdr_bits.specs.CubeBits.{AgreesAt, IsIn, is_in}
use Rattle.hdr_bits.proofs.Masks.{agrees_from_fixed, fixed_from_agrees}
use Rattle.cube_alg.specs.declared.cut.Piece.{Piece}
use Rattle.cube_alg.specs.Pieces.{value_of}
use Rattle.cube_alg.proofs.ValueLemmas.{test_in, test_out}
use Rattle.cube_diagram.specs.declared.table.Node.{Node}
use Rattle.cube_diagram.specs.declared.table.Node.TheVariants.{Nothing, Value}
use Rattle.hdr_bits.specs.Lists.{Extends}
use Rattle.cube_diagram.specs.Combined.{IsSplit, IsLater}
use Rattle.cube_diagram.specs.Entries.{AgreesIn, IsFirstMatch}
use Rattle.cube_diagram.specs.Tries.{IsTrie, is_on}
use Rattle.hdr_bits.proofs.ListLemmas.{extends_length}
use Rattle.cube_diagram.proofs.NodeLemmas.{model_grows, tested_grows, tested_read}
use Rattle.cube_diagram.proofs.EntryLemmas.{test_zero, test_one}

-- ---- bits that are free
pub free_from : (fixed bit i : ℕ) → fixed < 2 ^ 128 → 112 ≤ bit + count_trailing_zeros 128 fixed → bit ≤ i → i < 112 → bit_of fixed i ≡ 0
free_from fixed bit i b l m n =
    elim (cases_eq fixed 0) [
      | inl z ↦ subst (λ x. bit_of x i ≡ 0) (sym z) (bit_at-zero (111 - i))
      | inr z ↦ let t = bit_at-trailing_zeros w128 fixed (omega (arith, z)) b in t.2 (111 - i) (omega (arith, l, m, n))
    ]

-- ---- the stack
pub drop_none : (xs : List Piece) (n : ℕ) → None ≡ slice_get xs n → drop n xs ≡ []
drop_none [] zero e = refl
drop_none [] (suc n) e = refl
drop_none (x ∷ xs) zero e = absurd cc
drop_none (x ∷ xs) (suc n) e = drop_none xs n e

pub drop_some : (xs : List Piece) (n : ℕ) (x : Piece) → Some x ≡ slice_get xs n → drop n xs ≡ x ∷ drop (suc n) xs
drop_some [] n x e = absurd cc
drop_some (y ∷ xs) zero x e = let s : x ≡ y = cc in λ i. sym s i ∷ xs
drop_some (y ∷ xs) (suc n) x e = drop_some xs n x e

-- ---- nothing, and one piece that holds all
pub trie_none : (nodes : List Node) (pieces : List Piece) (bit : ℕ) → slice_get nodes 0 ≡ Some Nothing → pieces ≡ [] → bit ≤ 112 → IsTrie nodes pieces bit 0
trie_none nodes pieces bit z e l =
    record {
      below = slice_get_within nodes 0 Nothing z;
      order = (let p = tested_read nodes 0 Nothing z in omega (arith, p, l));
      value = λ val w h a. rw e (w.equation 0 Nothing z h);
    }

pub trie_first : (nodes : List Node) (pieces ps : List Piece) (p : Piece) (bit leaf : ℕ) → slice_get nodes leaf ≡ Some (Value p.value) → pieces ≡ p ∷ ps → ((i : ℕ) → bit ≤ i → i < 112 → bit_of p.cube.fixed i ≡ 0) → bit ≤ 112 → IsTrie nodes pieces bit leaf
trie_first nodes pieces ps p bit leaf g e free l =
    record {
      below = slice_get_within nodes leaf (Value p.value) g;
      order = (let q = tested_read nodes leaf (Value p.value) g in omega (arith, q, l));
      value = λ val w h a.
          let front : AgreesIn p.cube 0 bit h = All-head (λ q. AgreesIn q.cube 0 bit h) p ps (subst (All (λ q. AgreesIn q.cube 0 bit h)) e a) in
          let there : IsIn p.cube h = λ k m. elim (cases_lt k bit) [
            | inl s ↦ front k (omega arith) s
            | inr s ↦ agrees_from_fixed p.cube h k (λ f. let z = free k s m in absurd (omega (arith, z, f)))
          ] in
          rw e (w.equation leaf (Value p.value) g h ∙ sym (ap (λ t. if t then Some p.value else value_of ps h) (test_in p.cube h there)));
    }

-- ---- a bit at which no piece is fixed
pub trie_skip : (nodes : List Node) (pieces : List Piece) (bit r : ℕ) → All (λ p. bit_of p.cube.fixed bit ≡ 0) pieces → IsTrie nodes pieces (bit + 1) r → IsTrie nodes pieces bit r
trie_skip nodes pieces bit r z t =
    record {
      below = t.below;
      order = (let o = t.order in omega (arith, o));
      value = λ val w h a. t.value val w h (λ k d l i m n. elim (cases_lt i bit) [
        | inl s ↦ a k d l i m s
        | inr s ↦ agrees_from_fixed (get_or pieces k d).cube h i (λ f. let q : i ≡ bit = omega (arith, s, n) in let x = z k d l in let y = subst (λ j. bit_of (get_or pieces k d).cube.fixed j ≡ 1) q f in absurd (omega (arith, x, y)))
      ]);
    }

-- ---- the two sides of a bit
digit : Bool → ℕ
digit one = if one then 1 else 0

on_fixed : (f b : ℕ) (one : Bool) → (not (f == 1) || (if one then b == 1 else not (b == 1))) ≡ true → f ≡ 1 → b < 2 → b ≡ digit one
unfolding digit
on_fixed f b true e g l = grind (arith, nat_tests)
on_fixed f b false e g l = grind (arith, nat_tests)

off_fixed : (f b : ℕ) (one : Bool) → (not (f == 1) || (if one then b == 1 else not (b == 1))) ≡ false → f ≡ 1
off_fixed f b true e = grind (arith, nat_tests)
off_fixed f b false e = grind (arith, nat_tests)

off_other : (f b : ℕ) (one : Bool) → (not (f == 1) || (if one then b == 1 else not (b == 1))) ≡ false → b ≡ digit one → ⊥
unfolding digit
off_other f b true e g = grind (arith, nat_tests)
off_other f b false e g = grind (arith, nat_tests)

on_agrees : (bit h : ℕ) (one : Bool) (p : Piece) → bit_of h bit ≡ digit one → is_on bit one p ≡ true → AgreesAt p.cube h bit
on_agrees bit h one p e t =
    agrees_from_fixed p.cube h bit (λ f. e ∙ sym (on_fixed (bit_of p.cube.fixed bit) (bit_of p.cube.bits bit) one t f (bit_at-lt p.cube.bits (111 - bit))))

off_out : (bit h : ℕ) (one : Bool) (p : Piece) → bit < 112 → bit_of h bit ≡ digit one → is_on bit one p ≡ false → IsIn p.cube h → ⊥
off_out bit h one p l e t i =
    off_other (bit_of p.cube.fixed bit) (bit_of p.cube.bits bit) one t (sym (fixed_from_agrees p.cube h bit (i bit l) (off_fixed (bit_of p.cube.fixed bit) (bit_of p.cube.bits bit) one t)) ∙ e)

all_more : (P : Piece → Type 0) (p : Piece) (ps : List Piece) → P p → All P ps → All P (p ∷ ps)
all_more P p ps x a zero d l = x
all_more P p ps x a (suc k) d l = a k d (omega arith)

side_agrees : (bit h : ℕ) (one : Bool) (pieces : List Piece) → bit_of h bit ≡ digit one → All (λ p. AgreesIn p.cube 0 bit h) pieces → All (λ p. AgreesIn p.cube 0 (bit + 1) h) (filter (is_on bit one) pieces)
side_agrees bit h one [] e a = λ k d l. absurd (omega arith)
side_agrees bit h one (p ∷ ps) e a =
    by_test (side_agrees bit h one ps e (All-tail (λ q. AgreesIn q.cube 0 bit h) p ps a)) (is_on bit one p) refl
  where
    Q : Piece → Type 0
    Q q = AgreesIn q.cube 0 (bit + 1) h

    by_test : All Q (filter (is_on bit one) ps) → (t : Bool) → is_on bit one p ≡ t → All Q (cond t (p ∷ filter (is_on bit one) ps) (filter (is_on bit one) ps))
    by_test rest true f = all_more Q p (filter (is_on bit one) ps) (λ i m n. elim (cases_lt i bit) [
      | inl s ↦ a 0 p (omega arith) i m s
      | inr s ↦ let q : i ≡ bit = omega (arith, s, n) in subst (AgreesAt p.cube h) (sym q) (on_agrees bit h one p e f)
    ]) rest
    by_test rest false f = rest

side_value : (bit h : ℕ) (one : Bool) (pieces : List Piece) → bit < 112 → bit_of h bit ≡ digit one → value_of (filter (is_on bit one) pieces) h ≡ value_of pieces h
side_value bit h one [] l e = refl
side_value bit h one (p ∷ ps) l e =
    by_test (side_value bit h one ps l e) (is_on bit one p) refl
  where
    by_test : value_of (filter (is_on bit one) ps) h ≡ value_of ps h → (t : Bool) → is_on bit one p ≡ t → value_of (cond t (p ∷ filter (is_on bit one) ps) (filter (is_on bit one) ps)) h ≡ value_of (p ∷ ps) h
    by_test rest true f = ap (λ v. if is_in p.cube h then Some p.value else v) rest
    by_test rest false f = rest ∙ sym (ap (λ t. if t then Some p.value else value_of ps h) (test_out p.cube h (off_out bit h one p l e f)))

pub trie_grows : (a b : List Node) (pieces : List Piece) (bit r : ℕ) → Extends a b → IsTrie a pieces bit r → IsTrie b pieces bit r
trie_grows a b pieces bit r g t =
    let l = extends_length a b g in
    let m = t.below in
    let p = tested_grows a b r g t.below in
    let o = t.order in
    record { below = omega (arith, l, m); order = omega (arith, p, o); value = λ val w h i. t.value val (model_grows a b g val w) h i }

pub trie_later : (nodes : List Node) (pieces : List Piece) (bit r : ℕ) → bit < 112 → IsTrie nodes pieces (bit + 1) r → IsLater nodes bit r
trie_later nodes pieces bit r l t =
    let o = t.order in
    record { below = t.below; within = l; behind = omega (arith, o) }

pub trie_both : (nodes : List Node) (pieces : List Piece) (bit a b r : ℕ) → bit < 112 → IsTrie nodes (filter (is_on bit false) pieces) (bit + 1) a → IsTrie nodes (filter (is_on bit true) pieces) (bit + 1) b → IsSplit nodes bit a b r → IsTrie nodes pieces bit r
unfolding digit
trie_both nodes pieces bit a b r l p q s =
    record {
      below = s.below;
      order = s.order;
      value = λ val w h all. elim (cases_eq (bit_of h bit) 0) [
        | inl e ↦ s.by.value val w h ∙ (ap (λ t. if t then val a h else val b h) (test_zero (bit_of h bit) e) ∙ (p.value val w h (side_agrees bit h false pieces e all) ∙ side_value bit h false pieces l e))
        | inr n ↦ let e : bit_of h bit ≡ 1 = one_of (bit_of h bit) (bit_at-lt h (111 - bit)) n in
            s.by.value val w h ∙ (ap (λ t. if t then val a h else val b h) (test_one (bit_of h bit) e) ∙ (q.value val w h (side_agrees bit h true pieces e all) ∙ side_value bit h true pieces l e))
      ];
    }
  where
    one_of : (n : ℕ) → n < 2 → (n ≡ 0 → ⊥) → n ≡ 1
    one_of n l e = omega (arith, l, e)

pub trie_whole : (nodes : List Node) (pieces stack : List Piece) (r : ℕ) → stack ≡ pieces → IsTrie nodes (drop 0 stack) 0 r → IsFirstMatch nodes pieces r
trie_whole nodes pieces stack r e t =
    record { below = t.below; value = λ val w h. t.value val w h (λ k d l i m n. absurd (omega (arith, n))) ∙ ap (λ ps. value_of ps h) e }

-- ---- one more piece looked at
pub side_more : (old now : List Piece) (p : Piece) (start i bit : ℕ) (one : Bool) (more : List Piece) → start ≤ i → i < length old → now ≡ old ++ more → p ≡ get_or now i p → filter (is_on bit one) (take (i + 1 - start) (drop start old)) ≡ filter (is_on bit one) (take (i - start) (drop start old)) ++ cond (is_on bit one p) (p ∷ []) []
side_more old now p start i bit one more s l n e =
    let k : i + 1 - start ≡ i - start + 1 = omega (arith, s) in
    let d = length-drop start old in
    let at : get_or (drop start old) (i - start) p ≡ p = get_or-drop start old (i - start) p ∙ (ap (λ j. get_or old j p) (omega (arith, s)) ∙ (sym (get_or_append_left old more p i l) ∙ (ap (λ xs. get_or xs i p) (sym n) ∙ sym e))) in
    rw k (rw at at (filter_more (is_on bit one) (drop start old) (i - start) p (omega (arith, d, s, l))))

pub side_all : (old : List Piece) (start i bit : ℕ) (one : Bool) → length old ≤ i → filter (is_on bit one) (take (i - start) (drop start old)) ≡ filter (is_on bit one) (drop start old)
side_all old start i bit one l =
    let d = length-drop start old in
    ap (filter (is_on bit one)) (take_all (i - start) (drop start old) (omega (arith, d, l)))

pub items_pushed : (old now more next all : List Piece) (p : Piece) (t : Bool) → now ≡ old ++ more → next ≡ more ++ cond t (p ∷ []) [] → true ≡ t → all ≡ now ++ p ∷ [] → all ≡ old ++ next
items_pushed old now more next all p t e f g h =
    h ∙ (ap (λ xs. xs ++ p ∷ []) e ∙ (append_assoc old more (p ∷ []) ∙ ap (λ xs. old ++ xs) (sym (f ∙ ap (λ b. more ++ cond b (p ∷ []) []) (sym g)))))

pub items_kept : (old now more next : List Piece) (p : Piece) (t : Bool) → now ≡ old ++ more → next ≡ more ++ cond t (p ∷ []) [] → false ≡ t → now ≡ old ++ next
items_kept old now more next p t e f g =
    e ∙ ap (λ xs. old ++ xs) (sym (f ∙ (ap (λ b. more ++ cond b (p ∷ []) []) (sym g) ∙ append-nil more)))

-- ---- the stack cut back
pub below_side : (old all back cut : List Piece) (end : ℕ) → end ≡ length old → take (length old) all ≡ old → back ≡ all → cut ≡ take end back → cut ≡ old
below_side old all back cut end e f g h =
    h ∙ (ap (λ n. take n back) e ∙ (ap (take (length old)) g ∙ f))

pub all_from : (xs : List Piece) (start bit i : ℕ) → length xs ≤ i → ((j : ℕ) (d : Piece) → start ≤ j → j < i → bit_of (get_or xs j d).cube.fixed bit ≡ 0) → All (λ p. bit_of p.cube.fixed bit ≡ 0) (drop start xs)
all_from xs start bit i l f k d m =
    let n = length-drop start xs in
    rw (get_or-drop start xs k d) (f (start + k) d (omega arith) (omega (arith, n, m, l)))

pub all_kept : (xs : List Piece) (bit : ℕ) (one : Bool) → All (λ p. is_on bit one p ≡ true) xs → filter (is_on bit one) xs ≡ xs
all_kept [] bit one a = refl
all_kept (x ∷ xs) bit one a =
    ap (λ t. cond t (x ∷ filter (is_on bit one) xs) (filter (is_on bit one) xs)) (All-head (λ p. is_on bit one p ≡ true) x xs a)
    ∙ ap (λ ys. x ∷ ys) (all_kept xs bit one (All-tail (λ p. is_on bit one p ≡ true) x xs a))

pub all_on_from : (xs : List Piece) (start bit i : ℕ) (one : Bool) → length xs ≤ i → ((j : ℕ) (d : Piece) → start ≤ j → j < i → is_on bit one (get_or xs j d) ≡ true) → filter (is_on bit one) (drop start xs) ≡ drop start xs
all_on_from xs start bit i one l f =
    let n = length-drop start xs in
    all_kept (drop start xs) bit one (λ k d m. rw (get_or-drop start xs k d) (f (start + k) d (omega arith) (omega (arith, n, m, l))))

-- ---- a bit by its mask
pub bit_by_mask : (number bit mask : ℕ) → mask ≡ 2 ^ (111 - bit) → not (bit_and number mask == 0) ≡ (bit_of number bit == 1)
bit_by_mask number bit mask e =
    let a : bit_and number mask ≡ bit_of number bit * 2 ^ (111 - bit) = ap (bit_and number) e ∙ and_pow number (111 - bit) in
    let b = bit_at-lt number (111 - bit) in
    let p = one-le-pow (111 - bit) 2 (omega arith) in
    by (bit_of number bit) (bit_and number mask) (2 ^ (111 - bit)) b p a
  where
    by : (b m k : ℕ) → b < 2 → 0 < k → m ≡ b * k → not (m == 0) ≡ (b == 1)
    by zero m k l p e = let z : m ≡ 0 = omega (arith, e) in ap (λ x. not (x == 0)) z
    by (suc zero) m k l p e = let z : m ≡ k = omega (arith, e) in let n : 0 < m = omega (arith, z, p) in grind (arith, nat_tests, n)
    by (suc (suc b)) m k l p e = absurd (omega (arith, l))
