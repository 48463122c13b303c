-- A field of a header's number replaced, and cubes seen through that.
use Rattle.std.proofs.Common.{ℕ, zero, Bool, true, false, if◌then◌else◌, ◌==◌, inl, inr, ◌↔◌, suc, ◌+◌, ◌*◌, ◌-◌, ◌^◌, ◌<◌, ◌≤◌, ◌≡◌, Option, Some, None, refl, ap, sym, subst, ◌∙◌, arith, bit_and, bit_or}
use Rattle.std.specs.Int.{bit_at, bit_not, w128}
use Rattle.std.specs.Option.{unwrap_or, option_or}
use Rattle.std.proofs.lemmas.Nat.{and_le_l, and_le_r, or_lt, pow-add}
use Rattle.std.proofs.lemmas.Nat.Bits.{bit_at_and, bit_at_or, bit_at_not, bit_at-lt, bit_at-zero, same_from_bits, bit_at_cat_low, bit_at_cat_high, bit_at_mask_inside, bit_at_mask_below, bit_at_mask_above, bit_at_above}
use Rattle.std.proofs.lemmas.Bool.{cases_lt}
use Rattle.std.proofs.lemmas.Bool.Decides.{nat_tests}
use Rattle.std.proofs.Math.Nat.{pow-le-pow_right, mul-le-mul_right}
use Rattle.hdr_bits.specs.declared.header.Header.{Header}
use Rattle.hdr_bits.specs.declared.cube.Cube.{Cube}
use Rattle.hdr_bits.specs.HeaderBits.{number, header_of, IsHeader}
use Rattle.hdr_bits.specs.Bits.{bit_of}
use Rattle.hdr_bits.specs.CubeBits.{IsIn, IsStar}
use Rattle.cube_alg.proofs.SplitLemmas.{star_free, free_star}
use Rattle.hdr_bits.proofs.Masks.{in_from_mask, mask_from_in}
use Rattle.hdr_bits.proofs.Numbers.{number-header_of, header_of-number, header_of-is_header, number-below}
use Rattle.cube_alg.specs.declared.stamp.Stamp.{Stamp}
use Rattle.cube_alg.specs.Stamps.{applied, followed, unless_same, changed_fields, IsMadeFrom, IsReplaced, IsFieldAt, Writes}

-- the bits of a number that has a field of width w at position a
low_bit : (a w hi f lo i : ℕ) → i < a → bit_at ((hi * 2 ^ w + f) * 2 ^ a + lo) i ≡ bit_at lo i
low_bit a w hi f lo i l = bit_at_cat_low (hi * 2 ^ w + f) a lo i l

field_bit : (a w hi f lo i : ℕ) → lo < 2 ^ a → a ≤ i → i < a + w → bit_at ((hi * 2 ^ w + f) * 2 ^ a + lo) i ≡ bit_at f (i - a)
field_bit a w hi f lo i b l h = bit_at_cat_high (hi * 2 ^ w + f) a lo i b l ∙ bit_at_cat_low hi w f (i - a) (omega arith)

high_bit : (a w hi f lo i : ℕ) → lo < 2 ^ a → f < 2 ^ w → a + w ≤ i → bit_at ((hi * 2 ^ w + f) * 2 ^ a + lo) i ≡ bit_at hi (i - a - w)
high_bit a w hi f lo i b g h = bit_at_cat_high (hi * 2 ^ w + f) a lo i b (omega arith) ∙ bit_at_cat_high hi w f (i - a) g (omega arith)

value_low : (a v i : ℕ) → i < a → bit_at (v * 2 ^ a) i ≡ 0
value_low a v i l = ap (λ x. bit_at x i) (omega arith) ∙ bit_at_cat_low v a 0 i l ∙ bit_at-zero i

two_pow : (a : ℕ) → 0 < 2 ^ a
two_pow zero = omega arith
two_pow (suc a) = omega (arith, two_pow a)

value_field : (a v i : ℕ) → a ≤ i → bit_at (v * 2 ^ a) i ≡ bit_at v (i - a)
value_field a v i l = ap (λ x. bit_at x i) (omega arith) ∙ bit_at_cat_high v a 0 i (two_pow a) l

pub replaced_field : (a w hi f v lo : ℕ) → lo < 2 ^ a → f < 2 ^ w → v < 2 ^ w → IsReplaced (2 ^ (a + w) - 2 ^ a) (v * 2 ^ a) ((hi * 2 ^ w + f) * 2 ^ a + lo) ((hi * 2 ^ w + v) * 2 ^ a + lo)
replaced_field a w hi f v lo bl bf bv = record {
  within = λ i.
      let m1 = bit_at_mask_inside a (a + w) i in
      let v1 = value_low a v i in
      let v2 = value_field a v i in
      let v3 = bit_at_above v w (i - a) bv in
      let v4 = bit_at-lt v (i - a) in
      grind (arith, m1, v1, v2, v3, v4);
  inside = λ i e.
      let m1 = bit_at_mask_below a (a + w) i in
      let m2 = bit_at_mask_above a (a + w) i in
      let v2 = value_field a v i in
      let n1 = field_bit a w hi v lo i bl in
      grind (arith, m1, m2, v2, n1);
  outside = λ i e.
      let m1 = bit_at_mask_inside a (a + w) i in
      let x1 = low_bit a w hi f lo i in
      let x2 = high_bit a w hi f lo i bl bf in
      let y1 = low_bit a w hi v lo i in
      let y2 = high_bit a w hi v lo i bl bv in
      grind (arith, m1, x1, x2, y1, y2);
}

-- the same, with all replaced bits from lo up to hi
pub record IsReplacedIn (lo hi mask digits m n : ℕ) : Type 0 where
  pub replaced : IsReplaced mask digits m n
  pub low : (i : ℕ) → bit_at mask i ≡ 1 → lo ≤ i
  pub high : (i : ℕ) → bit_at mask i ≡ 1 → i < hi

field_step : (a w : ℕ) (o : Option ℕ) (mask digits hi f lo : ℕ) → IsFieldAt a w o mask digits → lo < 2 ^ a → f < 2 ^ w → IsReplacedIn a (a + w) mask digits ((hi * 2 ^ w + f) * 2 ^ a + lo) ((hi * 2 ^ w + unwrap_or o f) * 2 ^ a + lo)
field_step a w None mask digits hi f lo (p, d) bl bf =
    record {
      replaced = record {
        within = λ i. let x = ap (λ n. bit_at n i) d in let z = bit_at-zero i in omega (arith, x, z);
        inside = λ i e. let x = ap (λ n. bit_at n i) p in let z = bit_at-zero i in absurd (omega (arith, x, z, e));
        outside = λ i e. refl;
      };
      low = λ i e. let x = ap (λ n. bit_at n i) p in let z = bit_at-zero i in absurd (omega (arith, x, z, e));
      high = λ i e. let x = ap (λ n. bit_at n i) p in let z = bit_at-zero i in absurd (omega (arith, x, z, e));
    }
field_step a w (Some v) mask digits hi f lo (b, p, d) bl bf =
    let m = (hi * 2 ^ w + f) * 2 ^ a + lo in
    let n = (hi * 2 ^ w + v) * 2 ^ a + lo in
    let r = replaced_field a w hi f v lo bl bf b in
    record {
      replaced = subst (λ x. IsReplaced x digits m n) (sym p) (subst (λ x. IsReplaced (2 ^ (a + w) - 2 ^ a) x m n) (sym d) r);
      low = λ i e. let x = ap (λ n. bit_at n i) p in let y = bit_at_mask_below a (a + w) i in grind (arith, x, y, e);
      high = λ i e. let x = ap (λ n. bit_at n i) p in let y = bit_at_mask_above a (a + w) i in grind (arith, x, y, e);
    }

-- first the one and then the other, at lower bits
both_steps : (a b c e p d q f m n k : ℕ) → IsReplacedIn a b p d m n → IsReplacedIn c e q f n k → e ≤ a → c ≤ a → e ≤ b → IsReplacedIn c b (bit_or p q) (bit_or d f) m k
both_steps a b c e p d q f m n k r s l l2 l3 =
    let apart : (i : ℕ) → bit_at p i ≡ 1 → bit_at q i ≡ 1 → ⊥ = λ i x y. let u = r.low i x in let v = s.high i y in omega (arith, u, v, l) in
    record {
      replaced = record {
        within = λ i. let x = bit_at_or p q i in let y = bit_at_or d f i in let u = r.replaced.within i in let v = s.replaced.within i in omega (arith, x, y, u, v);
        inside = λ i o. let x = bit_at_or p q i in let y = bit_at_or d f i in let u = r.replaced.within i in let v = s.replaced.within i in let z = apart i in let g = r.replaced.inside i in let h = s.replaced.inside i in let j = s.replaced.outside i in grind (arith, x, y, u, v, z, g, h, j, o, bit_at-lt p i, bit_at-lt q i, bit_at-lt d i, bit_at-lt f i);
        outside = λ i o. let x = bit_at_or p q i in let g = r.replaced.outside i in let j = s.replaced.outside i in grind (arith, x, g, j, o, bit_at-lt p i, bit_at-lt q i);
      };
      low = λ i o. let x = bit_at_or p q i in let g = r.low i in let h = s.low i in grind (arith, x, g, h, l2, o, bit_at-lt p i, bit_at-lt q i);
      high = λ i o. let x = bit_at_or p q i in let g = r.high i in let h = s.high i in grind (arith, x, g, h, l3, o, bit_at-lt p i, bit_at-lt q i);
    }

as_numbers : (a b p d m n k l : ℕ) → m ≡ k → n ≡ l → IsReplacedIn a b p d m n → IsReplacedIn a b p d k l
as_numbers a b p d m n k l e g r = subst (IsReplacedIn a b p d k) g (subst (λ x. IsReplacedIn a b p d x n) e r)

-- the number of six fields
abbrev numbered : ℕ → ℕ → ℕ → ℕ → ℕ → ℕ → ℕ
numbered dst src proto dport sport flags =
    dst * 2 ^ 80 + src * 2 ^ 48 + proto * 2 ^ 40 + dport * 2 ^ 24 + sport * 2 ^ 8 + flags

dst_step : (o : Option ℕ) (p d : ℕ) (h : Header) → IsHeader h → IsFieldAt 80 32 o p d → IsReplacedIn 80 112 p d (number h) (numbered (unwrap_or o h.dst) h.src h.proto h.dport h.sport h.flags)
dst_step o p d h i f =
    let lo = h.src * 2 ^ 48 + h.proto * 2 ^ 40 + h.dport * 2 ^ 24 + h.sport * 2 ^ 8 + h.flags in
    let x = unwrap_or o h.dst in
    as_numbers 80 112 p d ((0 * 2 ^ 32 + h.dst) * 2 ^ 80 + lo) ((0 * 2 ^ 32 + x) * 2 ^ 80 + lo) _ _ (omega arith) (omega arith) (field_step 80 32 o p d 0 h.dst lo f (omega (arith, i.src, i.proto, i.dport, i.sport, i.flags)) i.dst)

src_step : (o : Option ℕ) (p d dst : ℕ) (h : Header) → IsHeader h → IsFieldAt 48 32 o p d → IsReplacedIn 48 80 p d (numbered dst h.src h.proto h.dport h.sport h.flags) (numbered dst (unwrap_or o h.src) h.proto h.dport h.sport h.flags)
src_step o p d dst h i f =
    let lo = h.proto * 2 ^ 40 + h.dport * 2 ^ 24 + h.sport * 2 ^ 8 + h.flags in
    let x = unwrap_or o h.src in
    as_numbers 48 80 p d ((dst * 2 ^ 32 + h.src) * 2 ^ 48 + lo) ((dst * 2 ^ 32 + x) * 2 ^ 48 + lo) _ _ (omega arith) (omega arith) (field_step 48 32 o p d dst h.src lo f (omega (arith, i.proto, i.dport, i.sport, i.flags)) i.src)

dport_step : (o : Option ℕ) (p d dst src : ℕ) (h : Header) → IsHeader h → IsFieldAt 24 16 o p d → IsReplacedIn 24 40 p d (numbered dst src h.proto h.dport h.sport h.flags) (numbered dst src h.proto (unwrap_or o h.dport) h.sport h.flags)
dport_step o p d dst src h i f =
    let lo = h.sport * 2 ^ 8 + h.flags in
    let hi = dst * 2 ^ 40 + src * 2 ^ 8 + h.proto in
    let x = unwrap_or o h.dport in
    as_numbers 24 40 p d ((hi * 2 ^ 16 + h.dport) * 2 ^ 24 + lo) ((hi * 2 ^ 16 + x) * 2 ^ 24 + lo) _ _ (omega arith) (omega arith) (field_step 24 16 o p d hi h.dport lo f (omega (arith, i.sport, i.flags)) i.dport)

sport_step : (o : Option ℕ) (p d dst src dport : ℕ) (h : Header) → IsHeader h → IsFieldAt 8 16 o p d → IsReplacedIn 8 24 p d (numbered dst src h.proto dport h.sport h.flags) (numbered dst src h.proto dport (unwrap_or o h.sport) h.flags)
sport_step o p d dst src dport h i f =
    let hi = dst * 2 ^ 56 + src * 2 ^ 24 + h.proto * 2 ^ 16 + dport in
    let x = unwrap_or o h.sport in
    as_numbers 8 24 p d ((hi * 2 ^ 16 + h.sport) * 2 ^ 8 + h.flags) ((hi * 2 ^ 16 + x) * 2 ^ 8 + h.flags) _ _ (omega arith) (omega arith) (field_step 8 16 o p d hi h.sport h.flags f i.flags i.sport)

-- a replaced field fits its size
field_fits : (a w : ℕ) (o : Option ℕ) (p d f : ℕ) → IsFieldAt a w o p d → f < 2 ^ w → unwrap_or o f < 2 ^ w
field_fits a w None p d f g b = b
field_fits a w (Some v) p d f g b = g.0

field_below : (a w : ℕ) (o : Option ℕ) (p d : ℕ) → IsFieldAt a w o p d → a + w ≤ 112 → p < 2 ^ 112
field_below a w None p d (e, g) l = omega (arith, e)
field_below a w (Some v) p d (b, e, g) l =
    let x : 2 ^ (a + w) ≤ 2 ^ 112 = pow-le-pow_right {n = 2} (omega arith) l in
    omega (arith, e, x, two_pow a)

-- digits within their bits
digits_fit : (mask digits : ℕ) → ((i : ℕ) → bit_at digits i ≤ bit_at mask i) → bit_and digits mask ≡ digits
digits_fit mask digits f =
    same_from_bits _ _ (λ i. let x = bit_at_and digits mask i in let y = f i in omega (arith, x, y))

abbrev zeros : Header
zeros = header_of 0

pub record FourFields (s : Stamp) (p q r t d e f g : ℕ) : Type 0 where
  pub dst : IsFieldAt 80 32 s.dst p d
  pub src : IsFieldAt 48 32 s.src q e
  pub dport : IsFieldAt 24 16 s.dport r f
  pub sport : IsFieldAt 8 16 s.sport t g

four_steps : (s : Stamp) (p q r t d e f g : ℕ) → FourFields s p q r t d e f g → (h : Header) → IsHeader h → IsReplacedIn 8 112 (bit_or (bit_or (bit_or p q) r) t) (bit_or (bit_or (bit_or d e) f) g) (number h) (number (applied s h))
four_steps s p q r t d e f g x h i =
    let dst = unwrap_or s.dst h.dst in
    let src = unwrap_or s.src h.src in
    let dport = unwrap_or s.dport h.dport in
    let one = both_steps 80 112 48 80 p d q e _ _ _ (dst_step s.dst p d h i x.dst) (src_step s.src q e dst h i x.src) (omega arith) (omega arith) (omega arith) in
    let two = both_steps 48 112 24 40 (bit_or p q) (bit_or d e) r f _ _ _ one (dport_step s.dport r f dst src h i x.dport) (omega arith) (omega arith) (omega arith) in
    both_steps 24 112 8 24 (bit_or (bit_or p q) r) (bit_or (bit_or d e) f) t g _ _ _ two (sport_step s.sport t g dst src dport h i x.sport) (omega arith) (omega arith) (omega arith)

pub writes : (s : Stamp) (p q r t d e f g : ℕ) → FourFields s p q r t d e f g → Writes s (bit_or (bit_or (bit_or p q) r) t) (bit_or (bit_or (bit_or d e) f) g)
writes s p q r t d e f g x =
    record {
      below = or_lt 112 _ t (or_lt 112 _ r (or_lt 112 p q (field_below 80 32 s.dst p d x.dst (omega arith)) (field_below 48 32 s.src q e x.src (omega arith))) (field_below 24 16 s.dport r f x.dport (omega arith))) (field_below 8 16 s.sport t g x.sport (omega arith));
      fits = digits_fit _ _ (four_steps s p q r t d e f g x zeros (header_of-is_header 0)).replaced.within;
      valid = λ h i. record {
        dst = field_fits 80 32 s.dst p d h.dst x.dst i.dst;
        src = field_fits 48 32 s.src q e h.src x.src i.src;
        proto = i.proto;
        dport = field_fits 24 16 s.dport r f h.dport x.dport i.dport;
        sport = field_fits 8 16 s.sport t g h.sport x.sport i.sport;
        flags = i.flags;
      };
      replaced = λ h i. (four_steps s p q r t d e f g x h i).replaced;
    }

-- ---- cubes seen through a replacement
-- a mask without the bits of another
abbrev pub without : ℕ → ℕ → ℕ
without x m = bit_and x (bit_not w128 m)

pub record IsWithout (x m n : ℕ) : Type 0 where
  pub kept : (i : ℕ) → bit_at m i ≡ 0 → bit_at n i ≡ bit_at x i
  pub gone : (i : ℕ) → bit_at m i ≡ 1 → bit_at n i ≡ 0

pub is_without : (x m : ℕ) → x < 2 ^ 112 → m < 2 ^ 112 → IsWithout x m (without x m)
is_without x m b c =
    record {
      kept = λ i e. elim (cases_lt i 128) [
        | inl l ↦ let u = bit_at_and x (bit_not w128 m) i in let v = bit_at_not w128 m i (omega (arith, c)) l in omega (arith, u, v, e, bit_at-lt x i)
        | inr l ↦ let u = bit_at_and x (bit_not w128 m) i in let v = bit_at_above x 112 i b (omega (arith, l)) in omega (arith, u, v)
      ];
      gone = λ i e. elim (cases_lt i 128) [
        | inl l ↦ let u = bit_at_and x (bit_not w128 m) i in let v = bit_at_not w128 m i (omega (arith, c)) l in omega (arith, u, v, e)
        | inr l ↦ let u = bit_at_and x (bit_not w128 m) i in let v = bit_at_above x 112 i b (omega (arith, l)) in omega (arith, u, v)
      ];
    }

pub bits_below : (c : Cube) → c.bits < 2 ^ 112
bits_below c = let x = and_le_r c.bits c.fixed in let d = c.digits in let b = c.below in omega (arith, x, d, b)

-- the digits of a mask lie inside it
in_mask : (f b i : ℕ) → bit_and b f ≡ b → bit_at b i ≤ bit_at f i
in_mask f b i e = let x = bit_at_and b f i in let y = ap (λ n. bit_at n i) e in omega (arith, x, y)

-- c seen from before the replacement is d
pub record SeenFrom (c : Cube) (mask fixed bits : ℕ) : Type 0 where
  pub fixed_there : IsWithout c.fixed mask fixed
  pub bits_there : IsWithout c.bits mask bits

pub seen : (c : Cube) (mask : ℕ) → mask < 2 ^ 112 → SeenFrom c mask (without c.fixed mask) (without c.bits mask)
seen c mask b = record { fixed_there = is_without c.fixed mask c.below b; bits_there = is_without c.bits mask (bits_below c) b }

pub seen_digits : (c : Cube) (mask fixed bits : ℕ) → SeenFrom c mask fixed bits → bit_and bits fixed ≡ bits
seen_digits c mask fixed bits s =
    same_from_bits _ _ (λ i.
    let x1 = in_mask c.fixed c.bits i c.digits in
    let x2 = bit_at_and bits fixed i in
    let x3 = s.fixed_there.kept i in
    let x4 = s.fixed_there.gone i in
    let x5 = s.bits_there.kept i in
    let x6 = s.bits_there.gone i in
    grind (arith, x1, x2, x3, x4, x5, x6, bit_at-lt mask i))

to_seen : (c : Cube) (mask digits fixed bits m n : ℕ) → SeenFrom c mask fixed bits → IsReplaced mask digits m n → bit_and n c.fixed ≡ c.bits → bit_and m fixed ≡ bits
to_seen c mask digits fixed bits m n s r h =
    same_from_bits _ _ (λ i.
    let x1 = bit_at_and m fixed i in
    let x2 = bit_at_and n c.fixed i in
    let x3 = ap (λ x. bit_at x i) h in
    let x4 = s.fixed_there.kept i in
    let x5 = s.fixed_there.gone i in
    let x6 = s.bits_there.kept i in
    let x7 = s.bits_there.gone i in
    let x8 = r.outside i in
    grind (arith, x1, x2, x3, x4, x5, x6, x7, x8, bit_at-lt mask i, bit_at-lt m i))

from_seen : (c : Cube) (mask digits fixed bits m n : ℕ) → SeenFrom c mask fixed bits → IsReplaced mask digits m n → bit_and digits c.fixed ≡ bit_and c.bits mask → bit_and m fixed ≡ bits → bit_and n c.fixed ≡ c.bits
from_seen c mask digits fixed bits m n s r k h =
    same_from_bits _ _ (λ i.
    let x1 = bit_at_and n c.fixed i in
    let x2 = bit_at_and m fixed i in
    let x3 = ap (λ x. bit_at x i) h in
    let x4 = s.fixed_there.kept i in
    let x5 = s.bits_there.kept i in
    let x6 = r.outside i in
    let x7 = r.inside i in
    let x8 = bit_at_and digits c.fixed i in
    let x9 = bit_at_and c.bits mask i in
    let y1 = ap (λ x. bit_at x i) k in
    let y2 = in_mask c.fixed c.bits i c.digits in
    grind (arith, x1, x2, x3, x4, x5, x6, x7, x8, x9, y1, y2, bit_at-lt mask i, bit_at-lt c.bits i))

pub agrees_there : (c : Cube) (mask digits m n : ℕ) → IsReplaced mask digits m n → bit_and n c.fixed ≡ c.bits → bit_and digits c.fixed ≡ bit_and c.bits mask
agrees_there c mask digits m n r h =
    same_from_bits _ _ (λ i.
    let x1 = bit_at_and n c.fixed i in
    let x2 = ap (λ x. bit_at x i) h in
    let x3 = r.within i in
    let x4 = r.inside i in
    let x5 = bit_at_and digits c.fixed i in
    let x6 = bit_at_and c.bits mask i in
    grind (arith, x1, x2, x3, x4, x5, x6, bit_at-lt mask i, bit_at-lt c.fixed i, bit_at-lt n i))

pub sent : (s : Stamp) (c d : Cube) (mask digits : ℕ) → Writes s mask digits → SeenFrom c mask d.fixed d.bits → bit_and digits c.fixed ≡ bit_and c.bits mask → (h : Header) → IsHeader h → IsIn d (number h) ↔ IsIn c (number (applied s h))
sent s c d mask digits w v k h i =
    let n = number (applied s h) in (
      λ p. in_from_mask c n (from_seen c mask digits d.fixed d.bits (number h) n v (w.replaced h i) k (mask_from_in d (number h) p)),
      λ p. in_from_mask d (number h) (to_seen c mask digits d.fixed d.bits (number h) n v (w.replaced h i) (mask_from_in c n p)),
    )

pub sent_none : (s : Stamp) (c : Cube) (mask digits : ℕ) → Writes s mask digits → (bit_and digits c.fixed ≡ bit_and c.bits mask → ⊥) → (h : Header) → IsHeader h → IsIn c (number (applied s h)) → ⊥
sent_none s c mask digits w clash h i p =
    clash (agrees_there c mask digits (number h) (number (applied s h)) (w.replaced h i) (mask_from_in c (number (applied s h)) p))

-- a cube has a header
pub some_sent : (d : Cube) → (h : Header) × IsHeader h × IsIn d (number h)
some_sent d =
    let h = header_of d.bits in
    (h, header_of-is_header d.bits, subst (IsIn d) (sym (number-header_of d.bits (bits_below d))) (in_from_mask d d.bits d.digits))

-- ---- the image
pub record IsImage (c : Cube) (mask digits fixed bits : ℕ) : Type 0 where
  pub fixed_or : fixed ≡ bit_or c.fixed mask
  pub bits_or : bits ≡ bit_or (without c.bits mask) digits

pub image_digits : (c : Cube) (mask digits : ℕ) → mask < 2 ^ 112 → bit_and digits mask ≡ digits → bit_and (bit_or (without c.bits mask) digits) (bit_or c.fixed mask) ≡ bit_or (without c.bits mask) digits
image_digits c mask digits l e =
    let v = is_without c.bits mask (bits_below c) l in
    same_from_bits _ _ (λ i.
    let x1 = in_mask c.fixed c.bits i c.digits in
    let x2 = in_mask mask digits i e in
    let x3 = bit_at_and (bit_or (without c.bits mask) digits) (bit_or c.fixed mask) i in
    let x4 = bit_at_or (without c.bits mask) digits i in
    let x5 = bit_at_or c.fixed mask i in
    let x6 = v.kept i in
    let x7 = v.gone i in
    grind (arith, x1, x2, x3, x4, x5, x6, x7, bit_at-lt mask i, bit_at-lt digits i, bit_at-lt c.bits i))

to_image : (c : Cube) (mask digits w m n : ℕ) → IsWithout c.bits mask w → IsReplaced mask digits m n → bit_and m c.fixed ≡ c.bits → bit_and n (bit_or c.fixed mask) ≡ bit_or w digits
to_image c mask digits w m n v r h =
    same_from_bits _ _ (λ i.
    let x1 = bit_at_and m c.fixed i in
    let x2 = ap (λ x. bit_at x i) h in
    let x3 = bit_at_and n (bit_or c.fixed mask) i in
    let x4 = bit_at_or c.fixed mask i in
    let x5 = bit_at_or w digits i in
    let x6 = v.kept i in
    let x7 = v.gone i in
    let x8 = r.within i in
    let x9 = r.inside i in
    let y1 = r.outside i in
    grind (arith, x1, x2, x3, x4, x5, x6, x7, x8, x9, y1, bit_at-lt mask i, bit_at-lt n i, bit_at-lt digits i, bit_at-lt c.fixed i))

-- the header of which g was made: the digits of c at the replaced bits
before : (c : Cube) (mask g : ℕ) → ℕ
before c mask g = bit_or (without g mask) (bit_and c.bits mask)

before_bit : (c : Cube) (mask g i : ℕ) → g < 2 ^ 112 → mask < 2 ^ 112 → (bit_at mask i ≡ 0 → bit_at (before c mask g) i ≡ bit_at g i) × (bit_at mask i ≡ 1 → bit_at (before c mask g) i ≡ bit_at c.bits i)
unfolding before
before_bit c mask g i b l =
    let v = is_without g mask b l in
    let x1 = bit_at_or (without g mask) (bit_and c.bits mask) i in
    let x2 = bit_at_and c.bits mask i in
    let x3 = v.kept i in
    let x4 = v.gone i in
    (λ e. grind (arith, x1, x2, x3, e, bit_at-lt c.bits i, bit_at-lt g i), λ e. grind (arith, x1, x2, x4, e, bit_at-lt c.bits i))

before_below : (c : Cube) (mask g : ℕ) → g < 2 ^ 112 → before c mask g < 2 ^ 112
unfolding before
before_below c mask g b =
    let x = and_le_l g (bit_not w128 mask) in
    let y = and_le_l c.bits mask in
    let z = bits_below c in
    or_lt 112 (without g mask) (bit_and c.bits mask) (omega (arith, x, b)) (omega (arith, y, z))

before_in : (c : Cube) (mask digits w g : ℕ) → g < 2 ^ 112 → mask < 2 ^ 112 → IsWithout c.bits mask w → bit_and digits mask ≡ digits → bit_and g (bit_or c.fixed mask) ≡ bit_or w digits → bit_and (before c mask g) c.fixed ≡ c.bits
before_in c mask digits w g b l v e h =
    same_from_bits _ _ (λ i.
    let x1 = bit_at_and (before c mask g) c.fixed i in
    let x2 = (before_bit c mask g i b l).0 in
    let x3 = (before_bit c mask g i b l).1 in
    let x4 = bit_at_and g (bit_or c.fixed mask) i in
    let x5 = ap (λ x. bit_at x i) h in
    let x6 = bit_at_or c.fixed mask i in
    let x7 = bit_at_or w digits i in
    let x8 = v.kept i in
    let y1 = in_mask c.fixed c.bits i c.digits in
    let y2 = in_mask mask digits i e in
    grind (arith, x1, x2, x3, x4, x5, x6, x7, x8, y1, y2, bit_at-lt mask i, bit_at-lt c.bits i, bit_at-lt digits i, bit_at-lt c.fixed i))

same_made : (c : Cube) (mask digits w g n : ℕ) → g < 2 ^ 112 → mask < 2 ^ 112 → IsWithout c.bits mask w → bit_and g (bit_or c.fixed mask) ≡ bit_or w digits → IsReplaced mask digits (before c mask g) n → n ≡ g
same_made c mask digits w g n b l v h r =
    same_from_bits _ _ (λ i.
    let x2 = (before_bit c mask g i b l).0 in
    let x4 = bit_at_and g (bit_or c.fixed mask) i in
    let x5 = ap (λ x. bit_at x i) h in
    let x6 = bit_at_or c.fixed mask i in
    let x7 = bit_at_or w digits i in
    let x8 = v.gone i in
    let x9 = r.inside i in
    let y1 = r.outside i in
    grind (arith, x2, x4, x5, x6, x7, x8, x9, y1, bit_at-lt mask i, bit_at-lt g i, bit_at-lt digits i, bit_at-lt c.fixed i))

pub image : (s : Stamp) (c d : Cube) (mask digits : ℕ) → Writes s mask digits → d.fixed ≡ bit_or c.fixed mask → d.bits ≡ bit_or (without c.bits mask) digits → (g : Header) → IsHeader g → IsIn d (number g) ↔ IsMadeFrom s c g
image s c d mask digits w e f g i =
    let v = is_without c.bits mask (bits_below c) w.below in
    let b = number-below g i in (
      λ p.
          let q : bit_and (number g) (bit_or c.fixed mask) ≡ bit_or (without c.bits mask) digits = ap (λ x. bit_and (number g) x) (sym e) ∙ (mask_from_in d (number g) p ∙ f) in
          let m = before c mask (number g) in
          let k : number (header_of m) ≡ m = number-header_of m (before_below c mask (number g) b) in
          let h = header_of m in
          let j = header_of-is_header m in
          let r : IsReplaced mask digits m (number (applied s h)) = subst (λ x. IsReplaced mask digits x (number (applied s h))) k (w.replaced h j) in
          let same = same_made c mask digits (without c.bits mask) (number g) (number (applied s h)) b w.below v q r in (
            h,
            j,
            subst (IsIn c) (sym k) (in_from_mask c m (before_in c mask digits (without c.bits mask) (number g) b w.below v w.fits q)),
            sym (header_of-number (applied s h) (w.valid h j)) ∙ (ap header_of same ∙ header_of-number g i),
          ),
      λ (h, j, p, same).
          let q = to_image c mask digits (without c.bits mask) (number h) (number (applied s h)) v (w.replaced h j) (mask_from_in c (number h) p) in
          subst (λ x. IsIn d (number x)) same (in_from_mask d (number (applied s h)) (ap (λ x. bit_and (number (applied s h)) x) e ∙ (q ∙ sym f))),
    )

-- ---- fields
-- a number of w bits, moved up by s
pub shifted_below : (v w s : ℕ) → v < 2 ^ w → v * 2 ^ s < 2 ^ (s + w)
shifted_below v w s l =
    let x : suc v * 2 ^ s ≤ 2 ^ w * 2 ^ s = mul-le-mul_right (2 ^ s) l in
    let y = pow-add 2 s w in
    let z = two_pow s in
    grind (arith, x, y, z)

pub powers : (s w : ℕ) → s ≤ 80 → w ≤ 32 → (2 ^ s ≤ 2 ^ (s + w)) × (2 ^ (s + w) ≤ 2 ^ 112)
powers s w a b =
    let l : s ≤ s + w = omega arith in
    let m : s + w ≤ 112 = omega (arith, a, b) in
    (pow-le-pow_right {n = 2} (omega arith) l, pow-le-pow_right {n = 2} (omega arith) m)

pub or_then : (o p : Option ℕ) (x : ℕ) → unwrap_or (option_or p o) x ≡ unwrap_or p (unwrap_or o x)
or_then o None x = refl
or_then o (Some v) x = refl

pub same_value : (o : Option ℕ) (x : ℕ) → unwrap_or (unless_same o x) x ≡ unwrap_or o x
same_value None x = refl
same_value (Some v) x = by_test (v == x) (λ e. grind (arith, nat_tests, e))
  where
    by_test : (t : Bool) → (t ≡ true → x ≡ v) → unwrap_or (if t then None else Some v) x ≡ v
    by_test true f = f refl
    by_test false f = refl

pub then_fields : (s t : Stamp) (h : Header) → applied (followed s t) h ≡ applied t (applied s h)
then_fields s t h =
    λ i. record {
      dst = or_then s.dst t.dst h.dst i;
      src = or_then s.src t.src h.src i;
      proto = h.proto;
      dport = or_then s.dport t.dport h.dport i;
      sport = or_then s.sport t.sport h.sport i;
      flags = h.flags;
    }

pub changed_same : (s : Stamp) (h : Header) → applied (changed_fields s h) h ≡ applied s h
changed_same s h =
    λ i. record {
      dst = same_value s.dst h.dst i;
      src = same_value s.src h.src i;
      proto = h.proto;
      dport = same_value s.dport h.dport i;
      sport = same_value s.sport h.sport i;
      flags = h.flags;
    }

-- a bit that is `*` in the image
pub image_star : (s : Stamp) (c d : Cube) (mask digits k : ℕ) → Writes s mask digits → d.fixed ≡ bit_or c.fixed mask → IsStar d k → IsStar c k × ((h : Header) → IsHeader h → bit_of (number (applied s h)) k ≡ bit_of (number h) k)
image_star s c d mask digits k w e st =
    let z = star_free d k st in
    let x = bit_at_or c.fixed mask (111 - k) in
    let y = ap (λ n. bit_at n (111 - k)) e in
    let f : bit_of c.fixed k ≡ 0 = omega (arith, x, y, z) in
    let p : bit_at mask (111 - k) ≡ 0 = omega (arith, x, y, z) in
    (free_star c k f, λ h i. (w.replaced h i).outside (111 - k) p)
