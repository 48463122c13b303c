use Rattle.std.proofs.Common.{bit_or, refl}
use Rattle.std.proofs.lemmas.Nat.{or_lt}
use Rattle.hdr_bits.specs.declared.cube.Cube.{Cube}
use Rattle.hdr_bits.proofs.Masks.{in_from_mask, mask_from_in}
use Rattle.cube_alg.specs.Pairs.{Meets}
use Rattle.cube_alg.proofs.MaskLemmas.{meets_of_both, both_digits, both_holds, holds_left, holds_right}
use Rattle.cube_alg.proofs.pair.meet.Goals as goal

pub returns-then-not-meets-clause-none : goal.returns-then-not-meets-clause-none
returns-then-not-meets-clause-none c =
    let a = c.args.a.now in
    let b = c.args.b.now in
    (λ _ h p q. let m = c.meets.ensures.masks.1 (meets_of_both a b h (mask_from_in a h p) (mask_from_in b h q)) in absurd cc, λ _. refl)

pub invariant_of-result : goal.invariant_of-result
invariant_of-result c =
    let a = c.args.a.now in
    let b = c.args.b.now in
    record { below = or_lt 112 a.fixed b.fixed a.below b.below; digits = both_digits a b }

pub returns-clause-both : goal.returns-clause-both
returns-clause-both c h =
    let a = c.args.a.now in
    let b = c.args.b.now in
    let m : Meets a b = c.meets.ensures.masks.0 c.if-not-meets.false in
    let s : Cube = record { fixed = bit_or a.fixed b.fixed; bits = bit_or a.bits b.bits; below = or_lt 112 a.fixed b.fixed a.below b.below; digits = both_digits a b } in
    (λ p. let q = mask_from_in s h p in (in_from_mask a h (holds_left a b h m q), in_from_mask b h (holds_right a b h m q)), λ p. in_from_mask s h (both_holds a b h (mask_from_in a h p.0) (mask_from_in b h p.1)))

pub returns-clause-none : goal.returns-clause-none
returns-clause-none c =
    let a = c.args.a.now in
    let b = c.args.b.now in
    let m : Meets a b = c.meets.ensures.masks.0 c.if-not-meets.false in
    let n = bit_or a.bits b.bits in
    let d = both_digits a b in
    (λ e. absurd cc, λ f. absurd (f n (in_from_mask a n (holds_left a b n m d)) (in_from_mask b n (holds_right a b n m d))))
