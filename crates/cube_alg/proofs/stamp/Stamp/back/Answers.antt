use Rattle.std.proofs.Common.{arith, ◌-◌, refl, ◌^◌}
use Rattle.std.proofs.lemmas.Nat.{and_le_l}
use Rattle.hdr_bits.specs.declared.cube.Cube.{Cube}
use Rattle.cube_alg.proofs.StampLemmas.{without, seen, seen_digits, sent, sent_none, some_sent}
use Rattle.cube_alg.proofs.stamp.Stamp.back.Goals as goal

pub returns-then-digits-c-clause-none : goal.returns-then-digits-c-clause-none
returns-then-digits-c-clause-none c =
    let w = c.written-mask.result in
    (λ _. sent_none c.args.self.now c.args.c.now w.mask w.digits c.written-mask.ensures c.if-digits-c.true, λ _. refl)

pub invariant_of-result : goal.invariant_of-result
invariant_of-result c =
    let k = c.args.c.now in
    let p = c.written-mask.result.mask in
    record {
      below = (let x = and_le_l k.fixed (2 ^ 128 - 1 - p) in let b = k.below in omega (arith, x, b));
      digits = seen_digits k p (without k.fixed p) (without k.bits p) (seen k p c.written-mask.ensures.below);
    }

pub returns-clause-sent : goal.returns-clause-sent
returns-clause-sent c h i =
    let k = c.args.c.now in
    let w = c.written-mask.result in
    let s = seen k w.mask c.written-mask.ensures.below in
    let d : Cube = record { fixed = without k.fixed w.mask; bits = without k.bits w.mask; below = (let x = and_le_l k.fixed (2 ^ 128 - 1 - w.mask) in let b = k.below in omega (arith, x, b)); digits = seen_digits k w.mask (without k.fixed w.mask) (without k.bits w.mask) s } in
    sent c.args.self.now k d w.mask w.digits c.written-mask.ensures s c.if-digits-c.false h i

pub returns-clause-none : goal.returns-clause-none
returns-clause-none c =
    let k = c.args.c.now in
    let w = c.written-mask.result in
    let s = seen k w.mask c.written-mask.ensures.below in
    let d : Cube = record { fixed = without k.fixed w.mask; bits = without k.bits w.mask; below = (let x = and_le_l k.fixed (2 ^ 128 - 1 - w.mask) in let b = k.below in omega (arith, x, b)); digits = seen_digits k w.mask (without k.fixed w.mask) (without k.bits w.mask) s } in
    let g = some_sent d in
    (λ e. absurd cc, λ f. absurd (f g.0 g.1 ((sent c.args.self.now k d w.mask w.digits c.written-mask.ensures s c.if-digits-c.false g.0 g.1).0 g.2)))
