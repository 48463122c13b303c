use Rattle.std.proofs.Common.{◌≡◌, ap, subst, ◌∙◌, arith}
use Rattle.transfer_rel.specs.CubeMoves.{SameSet}
use Rattle.region_walk.specs.Visits.{states_below}
use Rattle.region_walk.proofs.level.states_below.Goals as goal

pub returns : goal.returns
returns c =
    let end : c.loop-n.n ≡ c.args.limit = omega (arith, c.loop-n-test.false, c.loop-n.auto.n-end) in
    subst (SameSet c.in_ok-states.states.items) (c.loop-n.invariant ∙ ap (states_below c.args.levels.now) end) c.in_ok-states.ensures
