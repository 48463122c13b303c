-- The order of cubes.
use Rattle.std.proofs.Common.{◌≡◌, ℕ, zero, suc, ◌-◌, ◌<◌, ◌==◌, inl, inr, Bool, true, false, cond, Option, Some, None, refl, sym, ap, ◌∙◌, arith}
use Rattle.std.proofs.lemmas.Bool.{cases_order, eqb-true}
use Rattle.std.proofs.lemmas.Nat.Bits.{bit_at-lt}
use Rattle.hdr_bits.specs.declared.cube.Cube.{Cube}
use Rattle.hdr_bits.specs.Bits.{bit_of}
use Rattle.hdr_bits.specs.CubeBits.{digit_at}
use Rattle.hdr_bits.specs.Rows.{ComesBefore}

zero_one : (c : Cube) (k : ℕ) → digit_at c k ≡ Some 0 → digit_at c k ≡ Some 1 → ⊥
zero_one c k a b = let e : ◌≡◌ {A = Option ℕ} (Some 0) (Some 1) = sym a ∙ b in let f : ◌≡◌ {A = ℕ} 0 1 = cc in absurd (omega arith)

pub comes_before-trans : (c d e : Cube) → ComesBefore c d → ComesBefore d e → ComesBefore c e
comes_before-trans c d e h g =
    elim (cases_order h.first g.first) [
      | inl q ↦ absurd (zero_one d g.first g.zero_there (ap (digit_at d) (sym q) ∙ h.one_there))
      | inr o ↦ elim o [
        | inl l ↦ record {
          first = h.first;
          within = h.within;
          same = λ i k. h.same i k ∙ g.same i (omega (arith, k, l));
          zero_there = h.zero_there;
          one_there = sym (g.same h.first l) ∙ h.one_there;
        }
        | inr l ↦ record {
          first = g.first;
          within = g.within;
          same = λ i k. h.same i (omega (arith, k, l)) ∙ g.same i k;
          zero_there = h.same g.first l ∙ g.zero_there;
          one_there = g.one_there;
        }
      ]
    ]

-- a digit by the bits of the two masks
pub digit_from_bits : (c : Cube) (k : ℕ) (one : Bool) → bit_of c.fixed k == 1 ≡ true → bit_of c.bits k == 1 ≡ one → digit_at c k ≡ Some (cond one 1 0)
digit_from_bits c k one f b =
    let fixed : bit_of c.fixed k ≡ 1 = eqb-true (bit_of c.fixed k) 1 f in
    let digit : bit_of c.bits k ≡ cond one 1 0 = bit_is (bit_of c.bits k) one (bit_at-lt c.bits (111 - k)) b in
    ap (λ (n : ℕ). cond (n == 0) None (Some (bit_of c.bits k))) fixed ∙ ap Some digit
  where
    bit_is : (n : ℕ) (one : Bool) → n < 2 → n == 1 ≡ one → n ≡ cond one 1 0
    bit_is n true l e = eqb-true n 1 e
    bit_is zero false l e = refl
    bit_is (suc zero) false l e = absurd cc
    bit_is (suc (suc n)) false l e = absurd (omega (arith, l))
