-- The test that the code makes on masks, and membership by bits, are one.
use Rattle.std.proofs.Common.{ℕ, ◌-◌, ◌*◌, ◌%◌, ◌^◌, ◌<◌, ◌≤◌, ◌≡◌, ◌≢◌, Bool, true, false, Some, None, refl, ap, subst, arith, IfSome, if◌then◌else◌, ◌==◌, bit_and, bit_or}
use Rattle.std.specs.Int.{bit_at, bit_not, w128}
use Rattle.std.proofs.lemmas.Nat.{and_le_l, and_le_r, or_lt, one_shl, pow_below}
use Rattle.std.proofs.lemmas.Nat.Bits.{bit_at_set_same, bit_at_set_other, bit_at_clear_same, bit_at_clear_other, bit_at_and, bit_at-lt, same_from_bits_below}
use Rattle.std.proofs.lemmas.Bool.Decides.{nat_tests}
use Rattle.hdr_bits.specs.declared.cube.Cube.{Cube}
use Rattle.hdr_bits.specs.Bits.{bit_of}
use Rattle.hdr_bits.specs.CubeBits.{AgreesAt, IsIn}

-- n agrees with the fixed bits from position j up to position w
abbrev pub AgreesFrom : ℕ → ℕ → ℕ → ℕ → ℕ → Type 0
AgreesFrom w j fixed bits n = (i : ℕ) → j ≤ i → i < w → bit_at fixed i ≡ 1 → bit_at n i ≡ bit_at bits i

pub agrees_from_mask : (w fixed bits n : ℕ) → bit_and n fixed ≡ bits → AgreesFrom w 0 fixed bits n
agrees_from_mask w fixed bits n e i _ h f =
    let b = bit_at_and n fixed i in
    let l = bit_at-lt n i in
    let e' = ap (λ x. bit_at x i) e in
    omega (arith, b, l, e', f)

pub mask_from_agrees : (w fixed bits n : ℕ) → fixed < 2 ^ w → bit_and bits fixed ≡ bits → AgreesFrom w 0 fixed bits n → bit_and n fixed ≡ bits
mask_from_agrees w fixed bits n below digits agrees =
    same_from_bits_below w (bit_and n fixed) bits (omega (arith, and_le_r n fixed)) (let h = and_le_r bits fixed in omega (arith, h, digits)) (λ i h. let g = agrees i in let b1 = bit_at_and n fixed i in let b2 = bit_at_and bits fixed i in let b3 = ap (λ x. bit_at x i) digits in let l = bit_at-lt fixed i in let l2 = bit_at-lt bits i in let l3 = bit_at-lt n i in grind (arith, g, b1, b2, b3, l, l2, l3))

-- a bit that isn't `*` fixes the header's bit
pub fixed_from_agrees : (c : Cube) (h k : ℕ) → AgreesAt c h k → bit_of c.fixed k ≡ 1 → bit_of h k ≡ bit_of c.bits k
fixed_from_agrees c h k a e =
    rw e at a

agrees_cases : (t : Bool) (b n : ℕ) → (t ≡ false → n ≡ b) → IfSome (if t then None else Some b) (λ x. n ≡ x)
agrees_cases true b n f = tt
agrees_cases false b n f = f refl

pub agrees_from_fixed : (c : Cube) (h k : ℕ) → (bit_of c.fixed k ≡ 1 → bit_of h k ≡ bit_of c.bits k) → AgreesAt c h k
agrees_from_fixed c h k f =
    agrees_cases (bit_of c.fixed k == 0) (bit_of c.bits k) (bit_of h k) (λ e. let l = bit_at-lt c.fixed (111 - k) in f (grind (arith, nat_tests)))

-- the number at a position is the bit counted from the other end
pub fixed_at : (c : Cube) (h i : ℕ) → i < 112 → AgreesAt c h (111 - i) → bit_at c.fixed i ≡ 1 → bit_at h i ≡ bit_at c.bits i
fixed_at c h i l a f =
    let e : 111 - (111 - i) ≡ i = omega arith in
    let g : bit_of c.fixed (111 - i) ≡ 1 → bit_of h (111 - i) ≡ bit_of c.bits (111 - i) = fixed_from_agrees c h (111 - i) a in
    let P : ℕ → Type 0 = λ j. bit_at c.fixed j ≡ 1 → bit_at h j ≡ bit_at c.bits j in
    subst P e g f

pub in_from_mask : (c : Cube) (h : ℕ) → bit_and h c.fixed ≡ c.bits → IsIn c h
in_from_mask c h e k l =
    agrees_from_fixed c h k (agrees_from_mask 112 c.fixed c.bits h e (111 - k) (omega arith) (omega arith))

pub mask_from_in : (c : Cube) (h : ℕ) → IsIn c h → bit_and h c.fixed ≡ c.bits
mask_from_in c h a =
    mask_from_agrees 112 c.fixed c.bits h c.below c.digits (λ i _ l. fixed_at c h i l (a (111 - i) (omega arith)))

-- to set bit k, and to clear it
pub set_bit : (n k m : ℕ) → n < 2 ^ 112 → k < 112 → m ≡ bit_or n (1 * 2 ^ (111 - k) % 2 ^ 128) → (m < 2 ^ 112) × (bit_of m k ≡ 1) × ((i : ℕ) → i < 112 → i ≢ k → bit_of m i ≡ bit_of n i)
set_bit n k m b l e =
    let j : 111 - k < 128 = omega arith in
    let p : 2 ^ (111 - k) < 2 ^ 112 = pow_below (111 - k) 112 (omega arith) in
    rw e (or_lt 112 n (1 * 2 ^ (111 - k) % 2 ^ 128) b (omega (arith, one_shl (111 - k) 128 j)), bit_at_set_same w128 n (111 - k) j, λ i h d. bit_at_set_other w128 n (111 - k) j (111 - i) (λ q. d (omega arith)))

pub clear_bit : (n k m : ℕ) → n < 2 ^ 112 → k < 112 → m ≡ bit_and n (bit_not w128 (1 * 2 ^ (111 - k) % 2 ^ 128)) → (m < 2 ^ 112) × (bit_of m k ≡ 0) × ((i : ℕ) → i < 112 → i ≢ k → bit_of m i ≡ bit_of n i)
clear_bit n k m b l e =
    let j : 111 - k < 128 = omega arith in
    rw e (omega (arith, and_le_l n (bit_not w128 (1 * 2 ^ (111 - k) % 2 ^ 128))), bit_at_clear_same w128 n (111 - k) j, λ i h d. bit_at_clear_other w128 n (111 - k) j (111 - i) (omega arith) (λ q. d (omega arith)))
