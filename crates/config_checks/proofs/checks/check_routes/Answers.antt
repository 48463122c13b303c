use Rattle.std.proofs.Common.{◌≡◌, ◌++◌, ◌∷◌, [], take, sym, ap, ◌∙◌, subst, arith}
use Rattle.std.specs.Prelude.{flat_map}
use Rattle.std.proofs.lemmas.List.{take_more, flat_map_more}
use Rattle.net_types.specs.declared.config.Config.{Config}
use Rattle.net_types.specs.Routes.{installed}
use Rattle.config_checks.specs.Findings.{route_findings}
use Rattle.config_checks.proofs.checks.check_routes.Goals as goal

pub loop-route-preserved : goal.loop-route-preserved
loop-route-preserved c =
    let r = c.route-item.result in
    let f = route_findings c.args.config.now (installed c.args.config.now) in
    let i = c.loop-route.route-index in
    let xs = c.as_slice-route-items.result.now in
    let step : c.check_route.new.found.items ≡ c.loop-route.found.items ++ f r =
    subst (λ (k : Config). c.check_route.new.found.items ≡ c.loop-route.found.items ++ route_findings k (installed k) r) c.in_ok-known.ensures.config c.in_ok-check_route.ensures in
    step ∙ ap (λ l. l ++ f r) c.loop-route.invariant ∙ flat_map_more f c.args.found.now.items (take i xs) r
    ∙ ap (λ l. c.args.found.now.items ++ flat_map f l) (sym (take_more xs i r (omega arith) ∙ ap (λ y. take i xs ++ y ∷ []) (sym c.route-item.is)))
