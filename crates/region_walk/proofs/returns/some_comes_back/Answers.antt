use Rattle.std.proofs.Common.{◌≡◌, false, true, sym, subst, ◌∙◌}
use Rattle.std.proofs.lemmas.List.{take_all}
use Rattle.region_walk.specs.Returns.{SomeComesBack}
use Rattle.region_walk.proofs.ReturnLemmas.{some_none, some_found, some_more}
use Rattle.region_walk.proofs.returns.some_comes_back.Goals as goal

pub loop-state-init : goal.loop-state-init
loop-state-init c = some_none c.args.visits.now c.args.limit

pub returns-then-branch : goal.returns-then-branch
returns-then-branch c =
    some_found c.args.visits.now c.args.limit c.args.states.now c.loop-state.state-index c.loop-state-test.true (c.in_ok-comes_back.ensures.0 c.if-branch.true)

pub loop-state-preserved : goal.loop-state-preserved
loop-state-preserved c =
    some_more c.args.visits.now c.args.limit c.args.states.now c.loop-state.state-index c.loop-state-test.true c.loop-state.invariant
    (λ b. let both : false ≡ true = sym c.if-branch.false ∙ c.in_ok-comes_back.ensures.1 b in cc)

pub returns : goal.returns
returns c = (
  λ e. absurd (let both : false ≡ true = e in cc),
  λ b. absurd (c.loop-state.invariant (subst (SomeComesBack c.args.visits.now c.args.limit) (sym (take_all c.loop-state.state-index c.args.states.now c.loop-state-test.false)) b)),
)
