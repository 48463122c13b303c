use Rattle.std.proofs.Common.{◌-◌, ◌*◌, ◌%◌, ◌^◌, bit_or, refl, arith}
use Rattle.hdr_bits.specs.declared.cube.Cube.{Cube}
use Rattle.hdr_bits.proofs.Masks.{in_from_mask, mask_from_in}
use Rattle.cube_alg.proofs.SplitLemmas.{or_sets, or_adds, or_below, and_set, set_and, and_set_one, set_and_one, digits_set, digits_set_one, star_free, has_zero, has_one}
use Rattle.cube_alg.proofs.pair.split.Goals as goal

pub invariant_of-low : goal.invariant_of-low
invariant_of-low c =
    let s = c.args.c.now in
    let p = 111 - c.args.k in
    record { below = or_below s.fixed (111 - c.args.k) (omega arith) s.below; digits = digits_set (111 - c.args.k) s.fixed _ s.bits (or_sets s.fixed (111 - c.args.k) (omega arith)) (star_free s c.args.k c.requires.star) s.digits }

pub invariant_of-high : goal.invariant_of-high
invariant_of-high c =
    let s = c.args.c.now in
    record { below = or_below s.fixed (111 - c.args.k) (omega arith) s.below; digits = digits_set_one (111 - c.args.k) s.fixed _ s.bits _ (or_sets s.fixed (111 - c.args.k) (omega arith)) (or_sets s.bits (111 - c.args.k) (omega arith)) (star_free s c.args.k c.requires.star) s.digits }

pub returns-clause-low : goal.returns-clause-low
returns-clause-low c h =
    let s = c.args.c.now in
    let k = c.args.k in
    let z = star_free s k c.requires.star in
    let o = or_sets s.fixed (111 - k) (omega arith) in
    let r : Cube = record { fixed = bit_or s.fixed (1 * 2 ^ (111 - k) % 2 ^ 128); bits = s.bits; below = or_below s.fixed (111 - k) (omega arith) s.below; digits = digits_set (111 - k) s.fixed _ s.bits o z s.digits } in
    (λ a. let q = and_set (111 - k) s.fixed _ s.bits h o z s.digits (mask_from_in r h a) in (in_from_mask s h q.0, q.1), λ a. in_from_mask r h (set_and (111 - k) s.fixed _ s.bits h o z s.digits (mask_from_in s h a.0) a.1))

pub returns-clause-high : goal.returns-clause-high
returns-clause-high c h =
    let s = c.args.c.now in
    let k = c.args.k in
    let z = star_free s k c.requires.star in
    let o = or_sets s.fixed (111 - k) (omega arith) in
    let t = or_sets s.bits (111 - k) (omega arith) in
    let r : Cube = record { fixed = bit_or s.fixed (1 * 2 ^ (111 - k) % 2 ^ 128); bits = bit_or s.bits (1 * 2 ^ (111 - k) % 2 ^ 128); below = or_below s.fixed (111 - k) (omega arith) s.below; digits = digits_set_one (111 - k) s.fixed _ s.bits _ o t z s.digits } in
    (λ a. let q = and_set_one (111 - k) s.fixed _ s.bits _ h o t z s.digits (mask_from_in r h a) in (in_from_mask s h q.0, q.1), λ a. in_from_mask r h (set_and_one (111 - k) s.fixed _ s.bits _ h o t z s.digits (mask_from_in s h a.0) a.1))

pub returns-clause-fixed : goal.returns-clause-fixed
returns-clause-fixed c =
    let s = c.args.c.now in
    let e = or_adds s.fixed (111 - c.args.k) (omega arith) (star_free s c.args.k c.requires.star) in
    (e, e)

pub returns-clause-low_bits : goal.returns-clause-low_bits
returns-clause-low_bits c =
    has_zero c.args.k c.args.c.now _ c.requires.bit (star_free c.args.c.now c.args.k c.requires.star) (or_sets c.args.c.now.fixed (111 - c.args.k) (omega arith)) refl

pub returns-clause-high_bits : goal.returns-clause-high_bits
returns-clause-high_bits c =
    let s = c.args.c.now in
    has_one c.args.k s _ c.requires.bit (or_sets s.fixed (111 - c.args.k) (omega arith)) (or_sets s.bits (111 - c.args.k) (omega arith))
