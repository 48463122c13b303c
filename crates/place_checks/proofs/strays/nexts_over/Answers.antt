use Rattle.std.proofs.Common.{[], ap, ◌∙◌, arith}
use Rattle.place_checks.specs.Strays.{add_next, once}
use Rattle.place_checks.proofs.Firsts.{fold_next}
use Rattle.place_checks.proofs.strays.nexts_over.Goals as goal

pub loop-route-preserved : goal.loop-route-preserved
loop-route-preserved c =
    let add = add_next c.args.interface.now in
    let route = c.route-item.result in
    c.in_ok-add_next.ensures ∙ ap (once c.loop-route.nexts.keys) c.next_over.ensures ∙ ap (λ l. add l route) c.loop-route.invariant
    ∙ fold_next c.args.routes.now c.loop-route.route-index route (omega arith) c.route-item.is add []
