use Rattle.std.proofs.Common.{◌≡◌, false, true, sym, subst, ◌∙◌, List, ℕ}
use Rattle.std.proofs.lemmas.List.{take_all}
use Rattle.region_walk.specs.Lists.{items_at}
use Rattle.region_walk.specs.Devices.{IsAmong}
use Rattle.region_walk.proofs.DeviceLemmas.{among_found, among_more, none_among}
use Rattle.region_walk.proofs.devices.some_is_at.Goals as goal

pub loop-state-init : goal.loop-state-init
loop-state-init c = none_among c.args.device

pub returns-then-is_at : goal.returns-then-is_at
returns-then-is_at c =
    among_found c.args.device c.args.visits.now c.args.states.now c.loop-state.state-index c.loop-state-test.true (c.is_at.ensures.0 c.if-is_at.true)

pub loop-state-preserved : goal.loop-state-preserved
loop-state-preserved c =
    among_more c.args.device c.args.visits.now c.args.states.now c.loop-state.state-index c.loop-state-test.true c.loop-state.invariant
    (λ a. let both : false ≡ true = sym c.if-is_at.false ∙ c.is_at.ensures.1 a in cc)

pub returns : goal.returns
returns c = (
  λ e. absurd (let both : false ≡ true = e in cc),
  λ a. absurd (c.loop-state.invariant (subst (λ (ns : List ℕ). IsAmong c.args.device (items_at c.args.visits.now ns)) (sym (take_all c.loop-state.state-index c.args.states.now c.loop-state-test.false)) a)),
)
