use Rattle.std.proofs.Common.{ap, ◌∙◌}
use Rattle.region_walk.specs.Visits.{states_at}
use Rattle.region_walk.proofs.Turns.{level_some, level_none}
use Rattle.region_walk.proofs.level.states_at.Goals as goal

pub returns-in-Some : goal.returns-in-Some
returns-in-Some c =
    let h = c.in-Some.ensures.lookup in
    c.as_slice.ensures ∙ level_some c.args.levels.now c.from.result c.in-Some.level.now h.3.0 h.1 ∙ ap (states_at c.args.levels.now) c.from.ensures

pub returns-in-None : goal.returns-in-None
returns-in-None c =
    let h = c.in-None.ensures.lookup in
    level_none c.args.levels.now c.from.result h.3 ∙ ap (states_at c.args.levels.now) c.from.ensures
