use Rattle.std.proofs.Common.{refl, bit_or}
use Rattle.std.proofs.lemmas.Nat.{or_lt}
use Rattle.hdr_bits.specs.declared.cube.Cube.{Cube}
use Rattle.cube_alg.proofs.StampLemmas.{without, image_digits, image, image_star}
use Rattle.cube_alg.proofs.stamp.Stamp.forth.Goals as goal

pub invariant_of-result : goal.invariant_of-result
invariant_of-result c =
    let k = c.args.c.now in
    let w = c.written-mask.result in
    let e = c.written-mask.ensures in
    record {
      below = or_lt 112 k.fixed w.mask k.below e.below;
      digits = image_digits k w.mask w.digits e.below e.fits;
    }

pub returns-clause-made : goal.returns-clause-made
returns-clause-made c g i =
    let k = c.args.c.now in
    let w = c.written-mask.result in
    let e = c.written-mask.ensures in
    let d : Cube = record { fixed = bit_or k.fixed w.mask; bits = bit_or (without k.bits w.mask) w.digits; below = or_lt 112 k.fixed w.mask k.below e.below; digits = image_digits k w.mask w.digits e.below e.fits } in
    image c.args.self.now k d w.mask w.digits e refl refl g i

pub returns-clause-stars : goal.returns-clause-stars
returns-clause-stars c j s =
    let k = c.args.c.now in
    let w = c.written-mask.result in
    let e = c.written-mask.ensures in
    let d : Cube = record { fixed = bit_or k.fixed w.mask; bits = bit_or (without k.bits w.mask) w.digits; below = or_lt 112 k.fixed w.mask k.below e.below; digits = image_digits k w.mask w.digits e.below e.fits } in
    (image_star c.args.self.now k d w.mask w.digits j e refl s).0

pub returns-clause-kept : goal.returns-clause-kept
returns-clause-kept c j s =
    let k = c.args.c.now in
    let w = c.written-mask.result in
    let e = c.written-mask.ensures in
    let d : Cube = record { fixed = bit_or k.fixed w.mask; bits = bit_or (without k.bits w.mask) w.digits; below = or_lt 112 k.fixed w.mask k.below e.below; digits = image_digits k w.mask w.digits e.below e.fits } in
    (image_star c.args.self.now k d w.mask w.digits j e refl s).1
