use Rattle.std.proofs.Common.{Some, sym, ap, ◌∙◌}
use Rattle.region_walk.proofs.SpotEquality.{same_spot, spots_once, adds_one}
use Rattle.region_walk.proofs.visit.number_of.Goals as goal

pub returns-clause-adds : goal.returns-clause-adds
returns-clause-adds c = adds_one c.args.spot c.args.spots.now.keys _ _ c.in_ok-number.ensures.keys (spots_once _ c.in_ok-number.ensures.unique)

pub returns-clause-number : goal.returns-clause-number
returns-clause-number c =
    let s = c.in_ok-number.ensures.stored in
    s.1 ∙ ap Some (sym (same_spot c.args.spot s.0 s.2))
