use Rattle.nat_static.proofs.rules.rule_cube.Goals as goal
use Rattle.std.proofs.Common.{subst, sym}
use Rattle.cube_alg.specs.Stamps.{IsMadeFrom}
use Rattle.nat_static.specs.Rules.{fits}
use Rattle.nat_static.proofs.RuleLemmas.{rule_side}

pub returns : goal.returns
returns c h fits =
    let s = c.matched_side.ensures in
    let m = c.forth.ensures.made h fits in
    let r = rule_side c.args.direction c.args.rule.now c.protocol_cube.result h c.protocol_cube.ensures fits in
    (λ i. r.0 (subst (λ x. IsMadeFrom x c.protocol_cube.result h) s (m.0 i)), λ t. m.1 (subst (λ x. IsMadeFrom x c.protocol_cube.result h) (sym s) (r.1 t)))
