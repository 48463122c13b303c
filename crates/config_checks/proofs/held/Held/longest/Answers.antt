use Rattle.std.proofs.Common.{◌≡◌, ◌-◌, ◌+◌, suc, sym, ap, ◌∙◌, arith}
use Rattle.config_checks.specs.Findings.{longest_below}
use Rattle.config_checks.proofs.Lengths.{longest_is, found, passed, none_left}
use Rattle.config_checks.proofs.held.Held.longest.Goals as goal

pub returns-then-has : goal.returns-then-has
returns-then-has c = λ routes of.
    let a = c.args.address in
    let k : 33 - c.loop-less.less ≡ suc (32 - c.loop-less.less) = omega (arith, c.loop-less-test.true) in
    sym (longest_is routes a ∙ c.loop-less.invariant routes of ∙ found routes a (33 - c.loop-less.less) (32 - c.loop-less.less) k (sym (c.if-has.ensures routes of)))

pub loop-less-preserved : goal.loop-less-preserved
loop-less-preserved c = λ routes of.
    let a = c.args.address in
    let k : 33 - c.loop-less.less ≡ suc (32 - c.loop-less.less) = omega (arith, c.loop-less-test.true) in
    let m : 32 - c.loop-less.less ≡ 33 - (c.loop-less.less + 1) = omega arith in
    c.loop-less.invariant routes of ∙ passed routes a (33 - c.loop-less.less) (32 - c.loop-less.less) k (sym (c.if-has.ensures routes of)) ∙ ap (longest_below routes a) m

pub returns : goal.returns
returns c = λ routes of.
    let a = c.args.address in
    let z : 33 - c.loop-less.less ≡ 0 = omega (arith, c.loop-less-test.false) in
    sym (longest_is routes a ∙ c.loop-less.invariant routes of ∙ none_left routes a (33 - c.loop-less.less) z)
