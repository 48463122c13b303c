use Rattle.std.proofs.Common.{ℕ, ◌≡◌, ◌<◌, ◌≤◌, ◌^◌, ◌+◌, ◌*◌, ◌-◌, ◌/◌, ◌%◌, ◌==◌, ◌↔◌, inl, inr, Bool, true, false, ◌&&◌, ◌||◌, nat_le, nat_lt, List, [], ◌∷◌, ◌++◌, take, length, get_or, refl, ap, sym, ◌∙◌, arith, bit_and, true≢false}
use Rattle.std.proofs.lemmas.List.{take_more}
use Rattle.std.proofs.lemmas.List.Folds.{list_any-append}
use Rattle.hdr_bits.specs.declared.cube.Cube.{Cube}
use Rattle.hdr_bits.specs.CubeBits.{IsIn, is_in}
use Rattle.hdr_bits.proofs.Masks.{in_from_mask}
use Rattle.cube_alg.proofs.ValueLemmas.{test_in}
use Rattle.std.proofs.lemmas.Bool.Decides.{eqb_tells}
use Rattle.std.proofs.lemmas.Bool.Decides.{same_from_decides, Decides-eqb, Decides-like, Decides-and, Decides-ltb}
use Rattle.std.proofs.lemmas.Nat.{and_block, shr_split, and_le_r, pow-add, and_mod, mod_below, div-mul-add}
use Rattle.std.proofs.lemmas.Nat.Bits.{and_high_mask, same_from_bits, bit_at_and}
use Rattle.std.proofs.Math.Nat.{pow-le-pow_right, one-le-pow, mul-div_cancel, mod-eq_of_lt, mul-lt-mul_of_pos_right}
use Rattle.acl_match.proofs.PortLemmas.{Decides-leb}
use Rattle.acl_match.specs.Cubes.{any_in}
use Rattle.acl_match.specs.Products.{AddsMeets}

-- the test and the membership
pub in_of_test : (c : Cube) (h : ℕ) → is_in c h ≡ true → IsIn c h
in_of_test c h e =
    elim (eqb_tells (bit_and h c.fixed) c.bits) [
      | inl q ↦ in_from_mask c h q.1
      | inr q ↦ absurd (true≢false (sym e ∙ q.0))
    ]

both_tests : (x y z : Bool) → (x ≡ true → (y ≡ true) × (z ≡ true)) → (y ≡ true → z ≡ true → x ≡ true) → x ≡ (y && z)
both_tests true true true f g = refl
both_tests true true false f g = absurd (true≢false (sym (f refl).1))
both_tests true false z f g = absurd (true≢false (sym (f refl).0))
both_tests false true true f g = absurd (true≢false (sym (g refl refl)))
both_tests false true false f g = refl
both_tests false false z f g = refl

pub meet_test : (c t both : Cube) (h : ℕ) → (IsIn both h ↔ (IsIn c h × IsIn t h)) → is_in both h ≡ (is_in c h && is_in t h)
meet_test c t both h m =
    both_tests (is_in both h) (is_in c h) (is_in t h) (λ e. let p = m.0 (in_of_test both h e) in (test_in c h p.0, test_in t h p.1)) (λ e f. test_in both h (m.1 (in_of_test c h e, in_of_test t h f)))

pub apart_tests : (y z : Bool) → (y ≡ true → z ≡ true → ⊥) → false ≡ (y && z)
apart_tests true true f = absurd (f refl refl)
apart_tests true false f = refl
apart_tests false z f = refl

pub apart_test : (c t : Cube) (h : ℕ) → (IsIn c h → IsIn t h → ⊥) → false ≡ (is_in c h && is_in t h)
apart_test c t h f = apart_tests (is_in c h) (is_in t h) (λ e g. f (in_of_test c h e) (in_of_test t h g))

-- ---- one more test
spread : (o c x y : Bool) → ((o || (c && x)) || (c && y)) ≡ (o || (c && (x || y)))
spread true c x y = refl
spread false true x y = refl
spread false false x y = refl

or_false : (a : Bool) → (a || false) ≡ a
or_false true = refl
or_false false = refl

pub any_take : (h : ℕ) (ts : List Cube) (i : ℕ) (t : Cube) → i < length ts → t ≡ get_or ts i t → any_in (take (i + 1) ts) h ≡ (any_in (take i ts) h || is_in t h)
any_take h ts i t l e =
    let s : take (i + 1) ts ≡ take i ts ++ t ∷ [] = rw (← e) at (take_more ts i t l) in
    rw s (list_any-append (λ c. is_in c h) (take i ts) (t ∷ []) ∙ ap (λ x. any_in (take i ts) h || x) (or_false (is_in t h)))

pub meets_more : (c : Cube) (ts old new : List Cube) (i : ℕ) (t both : Cube) → i < length ts → t ≡ get_or ts i t → ((h : ℕ) → IsIn both h ↔ (IsIn c h × IsIn t h)) → AddsMeets c (take i ts) old new → AddsMeets c (take (i + 1) ts) old (new ++ both ∷ [])
meets_more c ts old new i t both l e m a =
    record {
      exact = λ h. list_any-append (λ d. is_in d h) new (both ∷ []) ∙ (ap (λ x. x || (is_in both h || false)) (a.exact h) ∙ (ap (λ x. (any_in old h || (is_in c h && any_in (take i ts) h)) || x) (or_false (is_in both h) ∙ meet_test c t both h (m h)) ∙ (spread (any_in old h) (is_in c h) (any_in (take i ts) h) (is_in t h) ∙ ap (λ x. any_in old h || (is_in c h && x)) (sym (any_take h ts i t l e)))));
    }

pub meets_skip : (c : Cube) (ts old new : List Cube) (i : ℕ) (t : Cube) → i < length ts → t ≡ get_or ts i t → ((h : ℕ) → IsIn c h → IsIn t h → ⊥) → AddsMeets c (take i ts) old new → AddsMeets c (take (i + 1) ts) old new
meets_skip c ts old new i t l e m a =
    record {
      exact = λ h. a.exact h ∙ (sym (or_false (any_in old h || (is_in c h && any_in (take i ts) h))) ∙ (ap (λ x. (any_in old h || (is_in c h && any_in (take i ts) h)) || x) (apart_test c t h (m h)) ∙ (spread (any_in old h) (is_in c h) (any_in (take i ts) h) (is_in t h) ∙ ap (λ x. any_in old h || (is_in c h && x)) (sym (any_take h ts i t l e)))));
    }

nothing_more : (o c : Bool) → o ≡ (o || (c && false))
nothing_more true c = refl
nothing_more false true = refl
nothing_more false false = refl

pub meets_start : (c : Cube) (old : List Cube) → AddsMeets c [] old old
meets_start c old = record { exact = λ h. nothing_more (any_in old h) (is_in c h) }

-- ---- one more cube
pub record IsProduct (firsts seconds cubes : List Cube) : Type 0 where
  pub exact : (h : ℕ) → any_in cubes h ≡ (any_in firsts h && any_in seconds h)

gather : (f s c : Bool) → ((f && s) || (c && s)) ≡ ((f || c) && s)
gather true true c = refl
gather true false true = refl
gather true false false = refl
gather false s c = refl

pub product_more : (fs ss old new : List Cube) (i : ℕ) (c : Cube) → i < length fs → c ≡ get_or fs i c → AddsMeets c ss old new → IsProduct (take i fs) ss old → IsProduct (take (i + 1) fs) ss new
product_more fs ss old new i c l e a p =
    record {
      exact = λ h. a.exact h ∙ (ap (λ x. x || (is_in c h && any_in ss h)) (p.exact h) ∙ (gather (any_in (take i fs) h) (any_in ss h) (is_in c h) ∙ ap (λ x. x && any_in ss h) (sym (any_take h fs i c l e))));
    }

-- ---- a field's bits
pub positive : (k : ℕ) → 0 < 2 ^ k
positive k = one-le-pow k 2 (omega arith)

pub and_shifted : (s h m : ℕ) → bit_and h (m * 2 ^ s) ≡ bit_and (h / 2 ^ s) m * 2 ^ s
and_shifted s h m =
    let p = positive s in
    let e : h / 2 ^ s * 2 ^ s + h % 2 ^ s ≡ h = shr_split h s in
    let b : bit_and (h / 2 ^ s * 2 ^ s + h % 2 ^ s) (m * 2 ^ s + 0) ≡ bit_and (h / 2 ^ s) m * 2 ^ s + bit_and (h % 2 ^ s) 0 = and_block s (h / 2 ^ s) m (h % 2 ^ s) 0 (mod_below h (2 ^ s) p) p in
    let z = and_le_r (h % 2 ^ s) 0 in
    let g : bit_and h (m * 2 ^ s + 0) ≡ bit_and (h / 2 ^ s) m * 2 ^ s + bit_and (h % 2 ^ s) 0 = rw e at b in
    let f : bit_and h (m * 2 ^ s) ≡ bit_and h (m * 2 ^ s + 0) = ap (λ x. bit_and h x) (omega arith) in
    omega (arith, g, f, z)

pub and_low : (a m w : ℕ) → m < 2 ^ w → bit_and a m ≡ bit_and (a % 2 ^ w) m
and_low a m w l =
    let e = and_mod a m w in
    let x : m % 2 ^ w ≡ m = mod-eq_of_lt l in
    let y : bit_and a m % 2 ^ w ≡ bit_and a m = mod-eq_of_lt (let q = and_le_r a m in omega (arith, q)) in
    sym y ∙ (e ∙ ap (λ t. bit_and (a % 2 ^ w) t) x)

pub shift_below : (m s w : ℕ) → m < 2 ^ w → s + w ≤ 112 → m * 2 ^ s < 2 ^ 112
shift_below m s w l k =
    let p : 2 ^ (w + s) ≡ 2 ^ w * 2 ^ s = pow-add 2 w s in
    let n : w + s ≤ 112 = omega arith in
    let q : 2 ^ (w + s) ≤ 2 ^ 112 = pow-le-pow_right {n = 2} (omega arith) n in
    let r : m * 2 ^ s < 2 ^ w * 2 ^ s = mul-lt-mul_of_pos_right l (positive s) in
    omega (arith, p, q, r)

cancel : (x y k : ℕ) → x * 2 ^ k ≡ y * 2 ^ k → x ≡ y
cancel x y k f = sym (mul-div_cancel x (positive k)) ∙ (ap (λ t. t / 2 ^ k) f ∙ mul-div_cancel y (positive k))

pub field_test : (h s w mask v : ℕ) → mask < 2 ^ w → (bit_and h (mask * 2 ^ s) == v * 2 ^ s) ≡ (bit_and (h / 2 ^ s % 2 ^ w) mask == v)
field_test h s w mask v l =
    let e : bit_and h (mask * 2 ^ s) ≡ bit_and (h / 2 ^ s % 2 ^ w) mask * 2 ^ s = and_shifted s h mask ∙ ap (λ x. x * 2 ^ s) (and_low (h / 2 ^ s) mask w l) in
    rw e (same_from_decides _ _ (Decides-like _ (cancel (bit_and (h / 2 ^ s % 2 ^ w) mask) v s) (λ q. ap (λ x. x * 2 ^ s) q) (Decides-eqb _ _)) (Decides-eqb _ _))

and_twice : (v m : ℕ) → bit_and (bit_and v m) m ≡ bit_and v m
and_twice v m = same_from_bits _ _ (λ i. let x = bit_at_and v m i in let y = bit_at_and (bit_and v m) m i in omega (arith, x, y))

pub field_digits : (s v m : ℕ) → bit_and (bit_and v m * 2 ^ s) (m * 2 ^ s) ≡ bit_and v m * 2 ^ s
field_digits s v m =
    let d : bit_and v m * 2 ^ s / 2 ^ s ≡ bit_and v m = mul-div_cancel (bit_and v m) (positive s) in
    and_shifted s (bit_and v m * 2 ^ s) m ∙ (ap (λ x. bit_and x m * 2 ^ s) d ∙ ap (λ x. x * 2 ^ s) (and_twice v m))

-- ---- a block by a mask
same_block : (p first k : ℕ) → first / 2 ^ k * 2 ^ k ≡ first → first ≤ p → p < first + 2 ^ k → p / 2 ^ k * 2 ^ k ≡ first / 2 ^ k * 2 ^ k
same_block p first k f l u =
    let e : first / 2 ^ k * 2 ^ k + (p - first) ≡ p = omega arith in
    let d : (first / 2 ^ k * 2 ^ k + (p - first)) / 2 ^ k ≡ first / 2 ^ k = div-mul-add (first / 2 ^ k) (2 ^ k) (p - first) (omega arith) in
    let g : p / 2 ^ k ≡ first / 2 ^ k = rw e at d in
    ap (λ x. x * 2 ^ k) g

pub block_test : (p first k : ℕ) → p < 2 ^ 16 → first < 2 ^ 16 → k ≤ 16 → first % 2 ^ k ≡ 0 → (bit_and p (2 ^ 16 - 2 ^ k) == bit_and first (2 ^ 16 - 2 ^ k)) ≡ (nat_le first p && nat_lt p (first + 2 ^ k))
block_test p first k pb fb l a =
    let c = positive k in
    let sp = shr_split p k in
    let sf = shr_split first k in
    let mp = mod_below p (2 ^ k) c in
    let f : first / 2 ^ k * 2 ^ k ≡ first = omega arith in
    let e : bit_and p (2 ^ 16 - 2 ^ k) ≡ p / 2 ^ k * 2 ^ k = and_high_mask 16 k l p pb in
    let g : bit_and first (2 ^ 16 - 2 ^ k) ≡ first / 2 ^ k * 2 ^ k = and_high_mask 16 k l first fb in
    rw (e, g) (same_from_decides _ _ (Decides-like _ (λ q. (omega (arith, q, f, sp), omega (arith, q, f, sp, mp))) (λ q. same_block p first k f q.0 q.1) (Decides-eqb (p / 2 ^ k * 2 ^ k) (first / 2 ^ k * 2 ^ k))) (Decides-and (nat_le first p) (nat_lt p (first + 2 ^ k)) (Decides-leb first p) (Decides-ltb p (first + 2 ^ k))))
