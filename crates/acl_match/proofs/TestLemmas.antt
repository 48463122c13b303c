use Rattle.std.proofs.Common.{ℕ, ◌≡◌, ◌<◌, ◌^◌, ◌==◌, ◌↔◌, inl, inr, Bool, true, false, not, ◌&&◌, ◌||◌, List, [], ◌++◌, Option, Some, None, IfSome, IsNone, refl, ap, sym, ◌∙◌, arith, bit_and, bit_or, w32, true≢false}
use Rattle.std.specs.Int.{bit_at, bit_not}
use Rattle.std.proofs.lemmas.Bool.Decides.{eqb_tells, same_from_decides, Decides-eqb, Decides-like, Decides-and}
use Rattle.std.proofs.lemmas.Nat.{or_lt, and_le_l}
use Rattle.std.proofs.lemmas.Nat.Bits.{bit_at_and, bit_at_or, bit_at_not, bit_at-lt, bit_at_above, same_from_bits, same_from_bits_below}
use Rattle.std.proofs.lemmas.List.Elements.{All-weaker}
use Rattle.std.proofs.lemmas.List.Folds.{list_any_none, list_any-from_Any}
use Rattle.hdr_bits.specs.declared.cube.Cube.{Cube}
use Rattle.hdr_bits.specs.CubeBits.{IsIn, IsStar, is_in}
use Rattle.hdr_bits.proofs.Masks.{in_from_mask, mask_from_in}
use Rattle.cube_alg.specs.Pairs.{AreApart}
use Rattle.cube_alg.specs.Rest.{AreRest, AddsRest}
use Rattle.cube_alg.proofs.ValueLemmas.{test_in, test_out}
use Rattle.cube_alg.proofs.CutLemmas.{in_all}
use Rattle.acl_match.specs.Cubes.{any_in, is_in_some}
use Rattle.acl_match.proofs.FieldLemmas.{meet_test, apart_test, apart_tests}

-- a cube of `*` alone
pub all_test : (all : Cube) (h : ℕ) → ((k : ℕ) → k < 112 → IsStar all k) → is_in all h ≡ true
all_test all h s = test_in all h (in_all all h s)

-- what two cubes have in common, if anything
pub common_test : (a b : Cube) (o : Option Cube) (h : ℕ) → IfSome o (λ c. (h : ℕ) → IsIn c h ↔ (IsIn a h × IsIn b h)) → (IsNone o ↔ AreApart a b) → is_in_some o h ≡ (is_in a h && is_in b h)
common_test a b None h f n = apart_test a b h (n.0 refl h)
common_test a b (Some c) h f n = meet_test a b c h (f h)

-- what is left of all headers outside a cube
pub outside_test : (all c : Cube) (cubes : List Cube) (h : ℕ) → IsIn all h → AreRest all c cubes → any_in cubes h ≡ not (is_in c h)
outside_test all c cubes h i r =
    elim (eqb_tells (bit_and h c.fixed) c.bits) [
      | inl q ↦ let m = in_from_mask c h q.1 in
          list_any_none (λ d. is_in d h) cubes (All-weaker (λ d. AreApart d c) (λ d. is_in d h ≡ false) (λ d o. test_out d h (λ k. o h k m)) cubes r.outside) ∙ sym (ap not (test_in c h m))
      | inr q ↦ let n : IsIn c h → ⊥ = λ m. q.1 (mask_from_in c h m) in
          let a = r.covers h i n in
          list_any-from_Any (λ d. is_in d h) cubes (a.0, a.1, a.2, a.3, test_in a.1 h a.4) ∙ sym (ap not (test_out c h n))
    ]

pub outside_added : (all c : Cube) (new : List Cube) (h : ℕ) → ((k : ℕ) → k < 112 → IsStar all k) → (old : List Cube) → old ≡ [] → AddsRest all c old new → any_in new h ≡ not (is_in c h)
outside_added all c new h s old e a =
    let n : new ≡ a.cubes = a.added ∙ ap (λ x. x ++ a.cubes) e in
    ap (λ x. any_in x h) n ∙ outside_test all c a.cubes h (in_all all h s) a.rest

-- ---- addresses under a wildcard mask
masked_or : (a v w : ℕ) → a < 2 ^ 32 → v < 2 ^ 32 → w < 2 ^ 32 → bit_and a (bit_not w32 w) ≡ bit_and v (bit_not w32 w) → bit_or a w ≡ bit_or v w
masked_or a v w la lv lw e =
    same_from_bits_below 32 _ _ (or_lt 32 a w la lw) (or_lt 32 v w lv lw) (λ i l. let p = bit_at_and a (bit_not w32 w) i in let q = bit_at_and v (bit_not w32 w) i in let n = bit_at_not w32 w i lw l in let x = bit_at_or a w i in let y = bit_at_or v w i in let f = ap (λ t. bit_at t i) e in omega (arith, p, q, n, x, y, f, bit_at-lt a i, bit_at-lt v i, bit_at-lt w i))

masked_and : (a v w : ℕ) → a < 2 ^ 32 → v < 2 ^ 32 → w < 2 ^ 32 → bit_or a w ≡ bit_or v w → bit_and a (bit_not w32 w) ≡ bit_and v (bit_not w32 w)
masked_and a v w la lv lw e =
    let s = and_le_l a (bit_not w32 w) in
    let t = and_le_l v (bit_not w32 w) in
    same_from_bits_below 32 _ _ (omega (arith, s)) (omega (arith, t)) (λ i l. let p = bit_at_and a (bit_not w32 w) i in let q = bit_at_and v (bit_not w32 w) i in let n = bit_at_not w32 w i lw l in let x = bit_at_or a w i in let y = bit_at_or v w i in let f = ap (λ t. bit_at t i) e in omega (arith, p, q, n, x, y, f, bit_at-lt a i, bit_at-lt v i, bit_at-lt w i))

pub masked_test : (a v w : ℕ) → a < 2 ^ 32 → v < 2 ^ 32 → w < 2 ^ 32 → (bit_and a (bit_not w32 w) == bit_and v (bit_not w32 w)) ≡ (bit_or a w == bit_or v w)
masked_test a v w la lv lw =
    same_from_decides _ _ (Decides-like _ (masked_or a v w la lv lw) (masked_and a v w la lv lw) (Decides-eqb (bit_and a (bit_not w32 w)) (bit_and v (bit_not w32 w)))) (Decides-eqb (bit_or a w) (bit_or v w))

-- ---- flags
set_there : (f s c : ℕ) → bit_and s c ≡ 0 → bit_and f (bit_or s c) ≡ bit_and s (bit_or s c) → bit_and f s ≡ s
set_there f s c z e =
    same_from_bits _ _ (λ i. let x = bit_at_and f s i in let y = bit_at_and s c i in let o = bit_at_or s c i in let p = bit_at_and f (bit_or s c) i in let q = bit_at_and s (bit_or s c) i in let g = ap (λ t. bit_at t i) e in let n = ap (λ t. bit_at t i) z in omega (arith, x, y, o, p, q, g, n, bit_at-lt f i, bit_at-lt s i, bit_at-lt c i))

zero_bits : (i : ℕ) → bit_at 0 i ≡ 0
zero_bits i = bit_at_above 0 0 i (omega arith) (omega arith)

clear_there : (f s c : ℕ) → bit_and s c ≡ 0 → bit_and f (bit_or s c) ≡ bit_and s (bit_or s c) → bit_and f c ≡ 0
clear_there f s c z e =
    same_from_bits _ _ (λ i. let x = bit_at_and f c i in let y = bit_at_and s c i in let o = bit_at_or s c i in let p = bit_at_and f (bit_or s c) i in let q = bit_at_and s (bit_or s c) i in let g = ap (λ t. bit_at t i) e in let n = ap (λ t. bit_at t i) z in omega (arith, x, y, o, p, q, g, n, zero_bits i, bit_at-lt f i, bit_at-lt s i, bit_at-lt c i))

both_there : (f s c : ℕ) → bit_and f s ≡ s → bit_and f c ≡ 0 → bit_and f (bit_or s c) ≡ bit_and s (bit_or s c)
both_there f s c e z =
    same_from_bits _ _ (λ i. let x = bit_at_and f s i in let y = bit_at_and f c i in let o = bit_at_or s c i in let p = bit_at_and f (bit_or s c) i in let q = bit_at_and s (bit_or s c) i in let g = ap (λ t. bit_at t i) e in let n = ap (λ t. bit_at t i) z in omega (arith, x, y, o, p, q, g, n, zero_bits i, bit_at-lt f i, bit_at-lt s i, bit_at-lt c i))

pub flags_test : (f s c : ℕ) → bit_and s c ≡ 0 → (bit_and f (bit_or s c) == bit_and s (bit_or s c)) ≡ (bit_and f s == s && bit_and f c == 0)
flags_test f s c z =
    same_from_decides _ _ (Decides-like _ (λ e. (set_there f s c z e, clear_there f s c z e)) (λ q. both_there f s c q.0 q.1) (Decides-eqb (bit_and f (bit_or s c)) (bit_and s (bit_or s c)))) (Decides-and (bit_and f s == s) (bit_and f c == 0) (Decides-eqb (bit_and f s) s) (Decides-eqb (bit_and f c) 0))

none_both : (f s c : ℕ) → bit_and f s ≡ s → bit_and f c ≡ 0 → bit_and s c ≡ 0
none_both f s c e z =
    same_from_bits _ _ (λ i. let x = bit_at_and f s i in let y = bit_at_and f c i in let o = bit_at_and s c i in let g = ap (λ t. bit_at t i) e in let n = ap (λ t. bit_at t i) z in omega (arith, x, y, o, g, n, zero_bits i, bit_at-lt f i, bit_at-lt s i, bit_at-lt c i))

pub no_flags : (f s c : ℕ) → (bit_and s c ≡ 0 → ⊥) → false ≡ (bit_and f s == s && bit_and f c == 0)
no_flags f s c n =
    apart_tests (bit_and f s == s) (bit_and f c == 0) (λ e g. n (none_both f s c ((Decides-eqb (bit_and f s) s).0 e) ((Decides-eqb (bit_and f c) 0).0 g)))

turn_round : (a b : Bool) → false ≡ (b && a) → (not a || not b) ≡ true
turn_round true true e = absurd (true≢false (sym e))
turn_round true false e = refl
turn_round false b e = refl

turned : (a b : Bool) → not (b && a) ≡ (not a || not b)
turned true true = refl
turned true false = refl
turned false true = refl
turned false false = refl

-- one flag of s is 1 or one of c is 0, unless each of c is 1 and each of s is 0
pub any_flag : (f s c : ℕ) (t : Bool) → t ≡ (bit_and f c == c && bit_and f s == 0) → not t ≡ (not (bit_and f s == 0) || not (bit_and f c == c))
any_flag f s c t e = ap not e ∙ turned (bit_and f s == 0) (bit_and f c == c)

pub always_a_flag : (f s c : ℕ) → false ≡ (bit_and f c == c && bit_and f s == 0) → (not (bit_and f s == 0) || not (bit_and f c == c)) ≡ true
always_a_flag f s c e = turn_round (bit_and f s == 0) (bit_and f c == c) e
