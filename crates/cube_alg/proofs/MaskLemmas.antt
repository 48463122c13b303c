use Rattle.std.proofs.Common.{ℕ, ◌-◌, ◌≡◌, ◌<◌, ◌^◌, ap, arith, bit_and, bit_or, bit_xor}
use Rattle.std.specs.Int.{bit_at}
use Rattle.std.proofs.lemmas.Nat.Bits.{bit_at_and, bit_at_or, bit_at_xor, bit_at_ones, bit_at_above, bit_at-lt, same_from_bits}
use Rattle.hdr_bits.specs.declared.cube.Cube.{Cube}
use Rattle.hdr_bits.specs.CubeBits.{IsIn}
use Rattle.hdr_bits.proofs.Masks.{in_from_mask, mask_from_in}
use Rattle.cube_alg.specs.Pairs.{Meets, Overlap, IsInside}

-- the header with number h is in the cube, by masks
abbrev pub Holds : Cube → ℕ → Type 0
Holds c h = bit_and h c.fixed ≡ c.bits

-- a header in both: they agree where both have a digit
pub meets_of_both : (a b : Cube) (h : ℕ) → Holds a h → Holds b h → Meets a b
meets_of_both a b h p q =
    same_from_bits _ _ (λ i. let x = bit_at_and h a.fixed i in let y = bit_at_and h b.fixed i in let z = bit_at_and a.bits b.fixed i in let w = bit_at_and b.bits a.fixed i in let e = ap (λ n. bit_at n i) p in let f = ap (λ n. bit_at n i) q in omega (arith, x, y, z, w, e, f, bit_at-lt h i))

-- the digits of both together
pub both_digits : (a b : Cube) → bit_and (bit_or a.bits b.bits) (bit_or a.fixed b.fixed) ≡ bit_or a.bits b.bits
both_digits a b =
    same_from_bits _ _ (λ i. let x = bit_at_or a.bits b.bits i in let y = bit_at_or a.fixed b.fixed i in let z = bit_at_and (bit_or a.bits b.bits) (bit_or a.fixed b.fixed) i in let u = bit_at_and a.bits a.fixed i in let v = bit_at_and b.bits b.fixed i in let e = ap (λ n. bit_at n i) a.digits in let f = ap (λ n. bit_at n i) b.digits in omega (arith, x, y, z, u, v, e, f))

pub both_holds : (a b : Cube) (h : ℕ) → Holds a h → Holds b h → bit_and h (bit_or a.fixed b.fixed) ≡ bit_or a.bits b.bits
both_holds a b h p q =
    same_from_bits _ _ (λ i. let x = bit_at_or a.bits b.bits i in let y = bit_at_or a.fixed b.fixed i in let z = bit_at_and h (bit_or a.fixed b.fixed) i in let u = bit_at_and h a.fixed i in let v = bit_at_and h b.fixed i in let e = ap (λ n. bit_at n i) p in let f = ap (λ n. bit_at n i) q in omega (arith, x, y, z, u, v, e, f, bit_at-lt h i))

pub holds_left : (a b : Cube) (h : ℕ) → Meets a b → bit_and h (bit_or a.fixed b.fixed) ≡ bit_or a.bits b.bits → Holds a h
holds_left a b h m p =
    same_from_bits _ _ (λ i. let x = bit_at_or a.bits b.bits i in let y = bit_at_or a.fixed b.fixed i in let z = bit_at_and h (bit_or a.fixed b.fixed) i in let u = bit_at_and h a.fixed i in let v = bit_at_and a.bits a.fixed i in let w = bit_at_and b.bits b.fixed i in let s = bit_at_and a.bits b.fixed i in let t = bit_at_and b.bits a.fixed i in let e = ap (λ n. bit_at n i) p in let f = ap (λ n. bit_at n i) m in let g = ap (λ n. bit_at n i) a.digits in let k = ap (λ n. bit_at n i) b.digits in omega (arith, x, y, z, u, v, w, s, t, e, f, g, k, bit_at-lt h i, bit_at-lt a.fixed i, bit_at-lt b.fixed i, bit_at-lt a.bits i, bit_at-lt b.bits i))

pub holds_right : (a b : Cube) (h : ℕ) → Meets a b → bit_and h (bit_or a.fixed b.fixed) ≡ bit_or a.bits b.bits → Holds b h
holds_right a b h m p =
    same_from_bits _ _ (λ i. let x = bit_at_or a.bits b.bits i in let y = bit_at_or a.fixed b.fixed i in let z = bit_at_and h (bit_or a.fixed b.fixed) i in let u = bit_at_and h b.fixed i in let v = bit_at_and a.bits a.fixed i in let w = bit_at_and b.bits b.fixed i in let s = bit_at_and a.bits b.fixed i in let t = bit_at_and b.bits a.fixed i in let e = ap (λ n. bit_at n i) p in let f = ap (λ n. bit_at n i) m in let g = ap (λ n. bit_at n i) a.digits in let k = ap (λ n. bit_at n i) b.digits in omega (arith, x, y, z, u, v, w, s, t, e, f, g, k, bit_at-lt h i, bit_at-lt a.fixed i, bit_at-lt b.fixed i, bit_at-lt a.bits i, bit_at-lt b.bits i))

-- a cube that has digits only where the other has them, and agrees there, holds it
pub inside_of_wider : (a b : Cube) (h : ℕ) → Meets a b → bit_and a.fixed b.fixed ≡ a.fixed → Holds b h → Holds a h
inside_of_wider a b h m w q =
    same_from_bits _ _ (λ i. let x = bit_at_and h a.fixed i in let y = bit_at_and h b.fixed i in let z = bit_at_and a.bits b.fixed i in let u = bit_at_and b.bits a.fixed i in let v = bit_at_and a.bits a.fixed i in let s = bit_at_and a.fixed b.fixed i in let e = ap (λ n. bit_at n i) m in let f = ap (λ n. bit_at n i) w in let g = ap (λ n. bit_at n i) q in let k = ap (λ n. bit_at n i) a.digits in omega (arith, x, y, z, u, v, s, e, f, g, k, bit_at-lt h i, bit_at-lt a.fixed i, bit_at-lt b.fixed i, bit_at-lt a.bits i, bit_at-lt b.bits i))

-- what both have in common
pub meets_of_overlap : (a b : Cube) → Overlap a b → Meets a b
meets_of_overlap a b o = meets_of_both a b o.0 (mask_from_in a o.0 o.1) (mask_from_in b o.0 o.2)

pub overlap_of_meets : (a b : Cube) → Meets a b → Overlap a b
overlap_of_meets a b m =
    let n = bit_or a.bits b.bits in
    let d = both_digits a b in
    (n, in_from_mask a n (holds_left a b n m d), in_from_mask b n (holds_right a b n m d))

-- a cube has the header of its digits, with 0 at each `*`
pub least_holds : (b : Cube) → IsIn b b.bits
least_holds b = in_from_mask b b.bits b.digits

-- and the one with 1 at each `*`
greatest : Cube → ℕ
greatest b = bit_or b.bits (bit_xor (2 ^ 112 - 1) b.fixed)

greatest_bit : (b : Cube) (i : ℕ) → i < 112 → bit_at b.fixed i ≡ 0 → bit_at (greatest b) i ≡ 1
unfolding greatest
greatest_bit b i l z =
    let x = bit_at_or b.bits (bit_xor (2 ^ 112 - 1) b.fixed) i in
    let y = bit_at_xor (2 ^ 112 - 1) b.fixed i in
    let o = bit_at_ones 112 i l in
    let u = bit_at_and b.bits b.fixed i in
    let e = ap (λ n. bit_at n i) b.digits in
    omega (arith, x, y, o, z, u, e)

greatest_holds : (b : Cube) → IsIn b (greatest b)
unfolding greatest
greatest_holds b =
    in_from_mask b (greatest b) (same_from_bits _ _ (λ i. let x = bit_at_and (bit_or b.bits (bit_xor (2 ^ 112 - 1) b.fixed)) b.fixed i in let y = bit_at_or b.bits (bit_xor (2 ^ 112 - 1) b.fixed) i in let z = bit_at_xor (2 ^ 112 - 1) b.fixed i in let u = bit_at_and b.bits b.fixed i in let e = ap (λ n. bit_at n i) b.digits in let o = bit_at_ones 112 i in let v = bit_at_above b.fixed 112 i b.below in grind (arith, x, y, z, u, e, o, v, bit_at-lt b.fixed i)))

-- where each header of b is in a, the digits of a stand at bits where b has digits
pub wider_of_inside : (a b : Cube) → IsInside b a → bit_and a.fixed b.fixed ≡ a.fixed
wider_of_inside a b f =
    let p = mask_from_in a b.bits (f b.bits (least_holds b)) in
    let q = mask_from_in a (greatest b) (f (greatest b) (greatest_holds b)) in
    same_from_bits _ _ (λ i.
    let x = bit_at_and a.fixed b.fixed i in
    let y = bit_at_and b.bits a.fixed i in
    let z = bit_at_and (greatest b) a.fixed i in
    let e = ap (λ n. bit_at n i) p in
    let g = ap (λ n. bit_at n i) q in
    let u = bit_at_and b.bits b.fixed i in
    let d = ap (λ n. bit_at n i) b.digits in
    let one = greatest_bit b i in
    let above = bit_at_above a.fixed 112 i a.below in
    grind (arith, x, y, z, e, g, u, d, one, above, bit_at-lt a.fixed i, bit_at-lt b.fixed i))

pub meets_of_inside : (a b : Cube) → IsInside b a → Meets a b
meets_of_inside a b f = meets_of_overlap a b (b.bits, f b.bits (least_holds b), least_holds b)

pub inside_of_both : (a b : Cube) → Meets a b → bit_and a.fixed b.fixed ≡ a.fixed → IsInside b a
inside_of_both a b m w h i = in_from_mask a h (inside_of_wider a b h m w (mask_from_in b h i))
