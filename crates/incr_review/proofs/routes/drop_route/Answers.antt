use Rattle.std.proofs.Common.{◌∙◌, ap, sym, Ok, position}
use Rattle.incr_review.specs.declared.edits.EditKind.TheVariants as kind
use Rattle.incr_review.specs.Same.{same_route}
use Rattle.incr_review.proofs.FirstLemmas.{dropped, undropped, within}
use Rattle.incr_review.proofs.routes.drop_route.Goals as goal

pub returns-in_default-clause-fail : goal.returns-in_default-clause-fail
returns-in_default-clause-fail c =
    let test = same_route c.args.route.now in
    undropped test kind.NoSuchRoute c.args.routes.now (sym c.in_default.is ∙ (c.route_position.ensures ∙ ap (position test) c.as_slice.ensures))

pub remove_at-requires : goal.remove_at-requires
remove_at-requires c =
    let test = same_route c.args.route.now in
    within test c.args.routes.now c.in-Some.position (sym c.in-Some.is ∙ (c.route_position.ensures ∙ ap (position test) c.as_slice.ensures))

pub returns-clause-ok : goal.returns-clause-ok
returns-clause-ok c =
    let test = same_route c.args.route.now in
    dropped test kind.NoSuchRoute c.args.routes.now c.in-Some.position (sym c.in-Some.is ∙ (c.route_position.ensures ∙ ap (position test) c.as_slice.ensures))
    ∙ ap Ok (sym c.remove_at.ensures)
