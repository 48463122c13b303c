use Rattle.std.proofs.Common.{◌≡◌, ◌-◌, false, true, sym, subst, ◌∙◌, arith}
use Rattle.region_walk.specs.Returns.{SomeComesBack}
use Rattle.region_walk.proofs.ReturnLemmas.{level_found, level_more, level_none}
use Rattle.region_walk.proofs.returns.has_loop.Goals as goal

pub loop-n-init : goal.loop-n-init
loop-n-init c = λ k l b. omega (arith, l)

pub returns-then-branch : goal.returns-then-branch
returns-then-branch c =
    let vs = c.args.visits.now in
    let n = c.loop-n.n in
    level_found vs c.args.levels.now c.args.limit n c.loop-n-test.true
    (subst (SomeComesBack vs (c.args.limit - n)) c.states_at.ensures (c.in_ok-some_comes_back.ensures.0 c.if-branch.true))

pub loop-n-preserved : goal.loop-n-preserved
loop-n-preserved c =
    let vs = c.args.visits.now in
    let n = c.loop-n.n in
    level_more vs c.args.levels.now c.args.limit n c.loop-n.invariant
    (λ b. let both : false ≡ true = sym c.if-branch.false ∙ c.in_ok-some_comes_back.ensures.1 (subst (SomeComesBack vs (c.args.limit - n)) (sym c.states_at.ensures) b) in cc)

pub returns : goal.returns
returns c = level_none c.args.visits.now c.args.levels.now c.args.limit c.loop-n.n (omega (arith, c.loop-n-test.false)) c.loop-n.invariant
