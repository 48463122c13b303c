-- How a region is worked: it has no value, or one value, or it is cut into parts.
use Rattle.std.proofs.Common.{ℕ, ◌≡◌, ◌<◌, ◌^◌, ◌↔◌, inl, inr, List, [], ◌∷◌, map, Option, Some, None, refl, sym, ◌∙◌, arith, All, AllPairs, Any}
use Rattle.std.proofs.lemmas.List.Elements.{All-nil, All-cons}
use Rattle.std.proofs.lemmas.List.Kept.{AllPairs-cons}
use Rattle.std.proofs.lemmas.Bool.{cases_eq}
use Rattle.hdr_bits.specs.Bits.{bit_of}
use Rattle.hdr_bits.specs.CubeBits.{IsIn}
use Rattle.cube_alg.specs.declared.Region.{Region}
use Rattle.task_board.specs.declared.leaf.Part.{Part}
use Rattle.task_board.specs.Regions.{Holds, LieApart, LiesWithin}
use Rattle.task_board.specs.Stands.{part_of, IsRight, IsWorked}
use Rattle.task_board.proofs.Pairs.{pairs_nil}

module _ {V : Type 0} (gives : ℕ → ℕ → Option V) (region : Region) where
  pub worked_nothing : ((slot h : ℕ) → h < 2 ^ 112 → Holds slot h region → gives slot h ≡ None) → IsWorked gives region [] []
  worked_nothing none =
      record {
        apart = pairs_nil LieApart;
        inside = All-nil (λ r. LiesWithin r region);
        right = All-nil (IsRight gives);
        rest = λ slot h lt i. inr (none slot h lt i);
      }

  pub worked_whole : (value : V) → ((slot h : ℕ) → h < 2 ^ 112 → Holds slot h region → gives slot h ≡ Some value) → IsWorked gives region (record { region = region; value = value } ∷ []) []
  worked_whole value each =
      record {
        apart = AllPairs-cons LieApart region [] (All-nil (LieApart region)) (pairs_nil LieApart);
        inside = All-cons (λ r. LiesWithin r region) region [] (record { within = λ slot h i. i }) (All-nil (λ r. LiesWithin r region));
        right = All-cons (IsRight gives) (record { region = region; value = value }) [] (record { value = each }) (All-nil (IsRight gives));
        rest = λ slot h lt i. inl (0, region, omega arith, refl, i);
      }

  pub worked_parts : (parts : List Part) → AllPairs LieApart (map (λ p. p.region) parts) → All (λ r. LiesWithin r region) (map (λ p. p.region) parts) → ((slot h : ℕ) → h < 2 ^ 112 → Holds slot h region → Any (Holds slot h) (map (λ p. p.region) parts)) → IsWorked gives region [] parts
  worked_parts parts apart inside covers =
      record {
        apart = apart;
        inside = inside;
        right = All-nil (IsRight gives);
        rest = λ slot h lt i. inl (covers slot h lt i);
      }

-- two regions of different slots are apart
pub two_apart : (r s : Region) → (r.slot ≡ s.slot → ⊥) → AllPairs LieApart (r ∷ s ∷ [])
two_apart r s ne =
    AllPairs-cons LieApart r (s ∷ [])
    (All-cons (LieApart r) s [] (record { apart = λ slot h i j. ne (i.same_slot ∙ sym j.same_slot) }) (All-nil (LieApart r)))
    (AllPairs-cons LieApart s [] (All-nil (LieApart s)) (pairs_nil LieApart))

-- a region in two halves, by a place
pub worked_halves : {V : Type 0} (gives : ℕ → ℕ → Option V) (region low high : Region) (k t u : ℕ) → low.slot ≡ region.slot → high.slot ≡ region.slot → ((h : ℕ) → IsIn low.cube h ↔ (IsIn region.cube h × (bit_of h k ≡ 0))) → ((h : ℕ) → IsIn high.cube h ↔ (IsIn region.cube h × (bit_of h k ≡ 1))) → IsWorked gives region [] (part_of low t ∷ part_of high u ∷ [])
worked_halves gives region low high k t u a b zero_half one_half =
    worked_parts gives region (part_of low t ∷ part_of high u ∷ [])
    (AllPairs-cons LieApart low (high ∷ []) (All-cons (LieApart low) high [] (record { apart = λ slot h i j. let x = ((zero_half h).0 i.member).1 in let y = ((one_half h).0 j.member).1 in omega (arith, x, y) }) (All-nil (LieApart low)))
    (AllPairs-cons LieApart high [] (All-nil (LieApart high)) (pairs_nil LieApart)))
    (All-cons (λ r. LiesWithin r region) low (high ∷ []) (record { within = λ slot h i. record { same_slot = sym a ∙ i.same_slot; member = ((zero_half h).0 i.member).0 } })
    (All-cons (λ r. LiesWithin r region) high [] (record { within = λ slot h i. record { same_slot = sym b ∙ i.same_slot; member = ((one_half h).0 i.member).0 } }) (All-nil (λ r. LiesWithin r region))))
    (λ slot h lt i. elim (cases_eq (bit_of h k) 0) [
      | inl e ↦ (0, low, omega arith, refl, record { same_slot = a ∙ i.same_slot; member = (zero_half h).1 (i.member, e) })
      | inr n ↦ let e : bit_of h k ≡ 1 = omega (arith, n) in (1, high, omega arith, refl, record { same_slot = b ∙ i.same_slot; member = (one_half h).1 (i.member, e) })
    ])
