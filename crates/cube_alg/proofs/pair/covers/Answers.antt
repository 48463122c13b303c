use Rattle.cube_alg.proofs.MaskLemmas.{wider_of_inside, meets_of_inside, inside_of_both}
use Rattle.cube_alg.proofs.pair.covers.Goals as goal

pub returns-then-is_wider : goal.returns-then-is_wider
returns-then-is_wider c =
    let a = c.args.a.now in
    let b = c.args.b.now in
    (λ t. inside_of_both a b (c.meets.ensures.masks.0 t) (c.is_wider.ensures.0 c.if-is_wider.true), λ f. c.meets.ensures.masks.1 (meets_of_inside a b f))

pub returns-else-is_wider : goal.returns-else-is_wider
returns-else-is_wider c =
    let a = c.args.a.now in
    let b = c.args.b.now in
    (λ t. absurd cc, λ f. let w = c.is_wider.ensures.1 (wider_of_inside a b f) in absurd cc)
