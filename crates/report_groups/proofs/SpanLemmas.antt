-- Patterns of which the last bits are open.
use Rattle.std.proofs.Common.{◌≡◌, ◌≤◌, ◌<◌, ◌-◌, ◌+◌, ◌*◌, ◌/◌, ◌%◌, ◌^◌, ◌==◌, ◌&&◌, ℕ, nat_le, sym, ap, ◌∙◌, arith, bit_and}
use Rattle.std.proofs.lemmas.Bool.Decides.{same_from_decides, Decides-eqb, Decides-and}
use Rattle.std.proofs.lemmas.Bool.{leb-true, le-leb}
use Rattle.std.proofs.lemmas.Nat.{shr_split, mod_below, div-mul-add}
use Rattle.std.proofs.lemmas.Nat.Bits.{and_high_mask}
use Rattle.std.proofs.Math.Nat.{pow-le-pow_right, one-le-pow}

pub power_room : (k : ℕ) → k ≤ 32 → (0 < 2 ^ k) × (2 ^ k ≤ 2 ^ 32)
power_room k l = (let p = one-le-pow k 2 (omega arith) in omega (arith, p), pow-le-pow_right {n = 2} (omega arith) l)

-- what a pattern holds whose last k bits are open
pub span_is : (w k v low fixed : ℕ) → k ≤ w → v < 2 ^ w → fixed ≡ 2 ^ w - 2 ^ k → low % 2 ^ k ≡ 0 → (nat_le low v && nat_le v (low + 2 ^ k - 1)) ≡ (bit_and v fixed == low)
span_is w k v low fixed l below f zero =
    let some = one-le-pow k 2 (omega arith) in
    let a = ap (bit_and v) f ∙ and_high_mask w k l v below in
    let parts = shr_split v k in
    let rest = mod_below v (2 ^ k) (omega (arith, some)) in
    let even = shr_split low k in
    same_from_decides _ _
    (Decides-and (nat_le low v) (nat_le v (low + 2 ^ k - 1)) (leb-true low v, le-leb low v) (leb-true v (low + 2 ^ k - 1), le-leb v (low + 2 ^ k - 1))) (
      λ h. (let e : v / 2 ^ k * 2 ^ k ≡ low = sym a ∙ (Decides-eqb (bit_and v fixed) low).0 h in (omega (arith, e, parts), omega (arith, e, parts, rest, some))),
      λ h. (
          let n = div-mul-add (low / 2 ^ k) (2 ^ k) (v - low) (omega (arith, h.0, h.1, some)) in
          let whole : low / 2 ^ k * 2 ^ k + (v - low) ≡ v = omega (arith, even, zero, h.0) in
          let q : v / 2 ^ k ≡ low / 2 ^ k = ap (λ x. x / 2 ^ k) (sym whole) ∙ n in
          let e : v / 2 ^ k * 2 ^ k ≡ low = ap (λ x. x * 2 ^ k) q ∙ omega (arith, even, zero) in
          (Decides-eqb (bit_and v fixed) low).1 (a ∙ e)
          ),
    )
