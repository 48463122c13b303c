-- The two halves of a region divide it.
use Rattle.std.proofs.Common.{ℕ, ◌≡◌, ◌<◌, ◌↔◌, inl, inr, [], ◌∷◌, Option, None, refl, sym, ◌∙◌, subst, arith}
use Rattle.std.specs.Prelude.{IsSome, IsNone}
use Rattle.std.proofs.lemmas.List.Elements.{All-nil, All-cons}
use Rattle.std.proofs.lemmas.Bool.{cases_eq}
use Rattle.hdr_bits.specs.Bits.{bit_of}
use Rattle.hdr_bits.specs.CubeBits.{IsIn, IsStar}
use Rattle.cube_alg.specs.Pairs.{HasDigit}
use Rattle.cube_alg.specs.declared.Region.{Region}
use Rattle.task_board.proofs.Worked.{worked_halves}
use Rattle.steal_pool.specs.Work.{FixesMore, Divide}

pub halves_divide : (region low high : Region) (k : ℕ) → k < 112 → IsStar region.cube k → low.slot ≡ region.slot → high.slot ≡ region.slot
    → ((h : ℕ) → IsIn low.cube h ↔ (IsIn region.cube h × (bit_of h k ≡ 0))) → ((h : ℕ) → IsIn high.cube h ↔ (IsIn region.cube h × (bit_of h k ≡ 1)))
    → HasDigit k 0 region.cube low.cube → HasDigit k 1 region.cube high.cube → Divide region (low ∷ high ∷ [])
halves_divide region low high k within star a b zero_half one_half zero_digit one_digit =
    let none : ℕ → ℕ → Option Region = λ slot h. None in
    let w = worked_halves none region low high k 0 0 a b zero_half one_half in record {
      several = omega arith;
      few = omega arith;
      apart = w.apart;
      inside = w.inside;
      covers = λ slot h i. elim (cases_eq (bit_of h k) 0) [
        | inl e ↦ (0, low, omega arith, refl, record { same_slot = a ∙ i.same_slot; member = (zero_half h).1 (i.member, e) })
        | inr n ↦ let e : bit_of h k ≡ 1 = omega (arith, n) in (1, high, omega arith, refl, record { same_slot = b ∙ i.same_slot; member = (one_half h).1 (i.member, e) })
      ];
      finer = All-cons (FixesMore region) low (high ∷ []) (finer low 0 zero_digit) (All-cons (FixesMore region) high [] (finer high 1 one_digit) (All-nil (FixesMore region)));
    }
  where
    -- a half has the digit at bit k, and is as the region at each other bit
    finer : (half : Region) (b : ℕ) → HasDigit k b region.cube half.cube → FixesMore region half
    finer half b digit = record {
      at = k;
      within = within;
      star = star;
      digit = subst IsSome (sym digit.there) refl;
      others = λ i lt s. elim (cases_eq i k) [
        | inl e ↦ subst (IsStar region.cube) (sym e) star
        | inr n ↦ subst IsNone (digit.others i lt n) s
      ];
    }
