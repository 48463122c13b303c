use Rattle.std.proofs.Common.{ℕ, Bool, true, false, Some, None, IsNone, if◌then◌else◌, ◌==◌, refl, ◌≡◌, ◌≢◌, ◌<◌, ◌^◌, ◌+◌, ◌-◌, ◌*◌, ◌%◌, inl, inr, ap, sym, ◌∙◌, subst, arith, bit_and, bit_or}
use Rattle.std.specs.Int.{bit_at, w128}
use Rattle.std.proofs.lemmas.Bool.{cases_eq}
use Rattle.std.proofs.lemmas.Bool.Decides.{nat_tests}
use Rattle.std.proofs.lemmas.Nat.{or_disjoint, one_shl, pow_below, or_lt}
use Rattle.std.proofs.lemmas.Nat.Bits.{bit_at_and, bit_at-lt, bit_at_set_same, bit_at_set_other, same_from_bits, and_pow}
use Rattle.hdr_bits.specs.declared.cube.Cube.{Cube}
use Rattle.hdr_bits.specs.Bits.{bit_of}
use Rattle.hdr_bits.specs.CubeBits.{digit_at, IsStar}
use Rattle.cube_alg.specs.Pairs.{HasDigit}

-- g is f with bit p set
pub record IsSet (p f g : ℕ) : Type 0 where
  pub same : bit_at g p ≡ 1
  pub other : (i : ℕ) → i ≢ p → bit_at g i ≡ bit_at f i

pub or_sets : (n p : ℕ) → p < 112 → IsSet p n (bit_or n (1 * 2 ^ p % 2 ^ 128))
or_sets n p l =
    record { same = bit_at_set_same w128 n p (omega arith); other = bit_at_set_other w128 n p (omega arith) }

by_bit : (p : ℕ) (P : ℕ → Type 0) → P p → ((i : ℕ) → i ≢ p → P i) → (i : ℕ) → P i
by_bit p P a b i =
    elim (cases_eq i p) [
      | inl e ↦ subst P (sym e) a
      | inr n ↦ b i n
    ]

pub and_set : (p f g b h : ℕ) → IsSet p f g → bit_at f p ≡ 0 → bit_and b f ≡ b → bit_and h g ≡ b → (bit_and h f ≡ b) × (bit_at h p ≡ 0)
and_set p f g b h s z d e = (
  same_from_bits _ _ (by_bit p (λ i. bit_at (bit_and h f) i ≡ bit_at b i) (let x = bit_at_and h f p in let y = bit_at_and b f p in let w = ap (λ n. bit_at n p) d in omega (arith, x, y, w)) (λ i n. let x = bit_at_and h f i in let y = bit_at_and h g i in let w = ap (λ m. bit_at m i) e in let o = s.other i n in omega (arith, x, y, w, o))),
  (let x = bit_at_and h g p in let y = bit_at_and b f p in let w = ap (λ n. bit_at n p) d in let v = ap (λ n. bit_at n p) e in let o = s.same in omega (arith, x, y, w, v, o, bit_at-lt h p)),
)

pub set_and : (p f g b h : ℕ) → IsSet p f g → bit_at f p ≡ 0 → bit_and b f ≡ b → bit_and h f ≡ b → bit_at h p ≡ 0 → bit_and h g ≡ b
set_and p f g b h s z d e t =
    same_from_bits _ _ (by_bit p (λ i. bit_at (bit_and h g) i ≡ bit_at b i) (let x = bit_at_and h g p in let y = bit_at_and b f p in let w = ap (λ n. bit_at n p) d in omega (arith, x, y, w)) (λ i n. let x = bit_at_and h f i in let y = bit_at_and h g i in let w = ap (λ m. bit_at m i) e in let o = s.other i n in omega (arith, x, y, w, o)))

pub and_set_one : (p f g b c h : ℕ) → IsSet p f g → IsSet p b c → bit_at f p ≡ 0 → bit_and b f ≡ b → bit_and h g ≡ c → (bit_and h f ≡ b) × (bit_at h p ≡ 1)
and_set_one p f g b c h s r z d e = (
  same_from_bits _ _ (by_bit p (λ i. bit_at (bit_and h f) i ≡ bit_at b i) (let x = bit_at_and h f p in let y = bit_at_and b f p in let w = ap (λ n. bit_at n p) d in omega (arith, x, y, w)) (λ i n. let x = bit_at_and h f i in let y = bit_at_and h g i in let w = ap (λ m. bit_at m i) e in let o = s.other i n in let q = r.other i n in omega (arith, x, y, w, o, q))),
  (let x = bit_at_and h g p in let v = ap (λ n. bit_at n p) e in let o = s.same in let q = r.same in omega (arith, x, v, o, q, bit_at-lt h p)),
)

pub set_and_one : (p f g b c h : ℕ) → IsSet p f g → IsSet p b c → bit_at f p ≡ 0 → bit_and b f ≡ b → bit_and h f ≡ b → bit_at h p ≡ 1 → bit_and h g ≡ c
set_and_one p f g b c h s r z d e t =
    same_from_bits _ _ (by_bit p (λ i. bit_at (bit_and h g) i ≡ bit_at c i) (let x = bit_at_and h g p in let o = s.same in let q = r.same in omega (arith, x, o, q, t)) (λ i n. let x = bit_at_and h f i in let y = bit_at_and h g i in let w = ap (λ m. bit_at m i) e in let o = s.other i n in let q = r.other i n in omega (arith, x, y, w, o, q)))

-- the digits of the halves stand at their bits
pub digits_set : (p f g b : ℕ) → IsSet p f g → bit_at f p ≡ 0 → bit_and b f ≡ b → bit_and b g ≡ b
digits_set p f g b s z d =
    set_and p f g b b s z d d (let y = bit_at_and b f p in let w = ap (λ n. bit_at n p) d in omega (arith, y, w))

pub digits_set_one : (p f g b c : ℕ) → IsSet p f g → IsSet p b c → bit_at f p ≡ 0 → bit_and b f ≡ b → bit_and c g ≡ c
digits_set_one p f g b c s r z d =
    same_from_bits _ _ (by_bit p (λ i. bit_at (bit_and c g) i ≡ bit_at c i) (let x = bit_at_and c g p in let o = s.same in let q = r.same in omega (arith, x, o, q)) (λ i n. let x = bit_at_and b f i in let y = bit_at_and c g i in let w = ap (λ m. bit_at m i) d in let o = s.other i n in let q = r.other i n in omega (arith, x, y, w, o, q)))

-- to set a free bit adds its weight
pub or_adds : (n p : ℕ) → p < 112 → bit_at n p ≡ 0 → bit_or n (1 * 2 ^ p % 2 ^ 128) ≡ n + 2 ^ p
or_adds n p l z =
    let e : 1 * 2 ^ p % 2 ^ 128 ≡ 2 ^ p = one_shl p 128 (omega arith) in
    let d : bit_and n (2 ^ p) ≡ 0 * 2 ^ p = and_pow n p ∙ ap (λ x. x * 2 ^ p) z in
    rw e (or_disjoint n (2 ^ p) (omega (arith, d)))

pub or_below : (n p : ℕ) → p < 112 → n < 2 ^ 112 → bit_or n (1 * 2 ^ p % 2 ^ 128) < 2 ^ 112
or_below n p l b =
    let q : 2 ^ p < 2 ^ 112 = pow_below p 112 l in
    or_lt 112 n _ b (omega (arith, one_shl p 128 (omega arith)))

-- ---- bits
none_of : (t : Bool) (b : ℕ) → IsNone (if t then None else Some b) → t ≡ true
none_of true b h = refl
none_of false b h = absurd cc

none_true : (t : Bool) (b : ℕ) → t ≡ true → IsNone (if t then None else Some b)
none_true true b e = refl
none_true false b e = absurd cc

pub star_free : (c : Cube) (k : ℕ) → IsStar c k → bit_of c.fixed k ≡ 0
star_free c k s = let t = none_of (bit_of c.fixed k == 0) (bit_of c.bits k) s in grind (arith, nat_tests)

pub free_star : (c : Cube) (k : ℕ) → bit_of c.fixed k ≡ 0 → IsStar c k
free_star c k z = none_true (bit_of c.fixed k == 0) (bit_of c.bits k) (grind (arith, nat_tests))

pub digit_same : (c d : Cube) (i : ℕ) → bit_of d.fixed i ≡ bit_of c.fixed i → bit_of d.bits i ≡ bit_of c.bits i → digit_at d i ≡ digit_at c i
digit_same c d i e g = λ t. if e t == 0 then None else Some (g t)

pub digit_there : (d : Cube) (k x : ℕ) → bit_of d.fixed k ≡ 1 → bit_of d.bits k ≡ x → digit_at d k ≡ Some x
digit_there d k x e g = λ t. if e t == 0 then None else Some (g t)

pub digit_star : (d : Cube) (k : ℕ) → bit_of d.fixed k ≡ 0 → digit_at d k ≡ None
digit_star d k e = λ t. if e t == 0 then None else Some (bit_of d.bits k)

-- the digit of a free bit is 0
pub free_zero : (c : Cube) (k : ℕ) → bit_of c.fixed k ≡ 0 → bit_of c.bits k ≡ 0
free_zero c k z = let x = bit_at_and c.bits c.fixed (111 - k) in let e = ap (λ n. bit_at n (111 - k)) c.digits in omega (arith, x, e, z)

pub has_zero : (k : ℕ) (c d : Cube) → k < 112 → bit_of c.fixed k ≡ 0 → IsSet (111 - k) c.fixed d.fixed → d.bits ≡ c.bits → HasDigit k 0 c d
has_zero k c d l z s e =
    record {
      there = digit_there d k 0 s.same (ap (λ n. bit_of n k) e ∙ free_zero c k z);
      others = λ i m n. digit_same c d i (s.other (111 - i) (λ q. n (omega (arith, q)))) (ap (λ x. bit_of x i) e);
    }

pub has_one : (k : ℕ) (c d : Cube) → k < 112 → IsSet (111 - k) c.fixed d.fixed → IsSet (111 - k) c.bits d.bits → HasDigit k 1 c d
has_one k c d l s r =
    record {
      there = digit_there d k 1 s.same r.same;
      others = λ i m n. digit_same c d i (s.other (111 - i) (λ q. n (omega (arith, q)))) (r.other (111 - i) (λ q. n (omega (arith, q))));
    }
