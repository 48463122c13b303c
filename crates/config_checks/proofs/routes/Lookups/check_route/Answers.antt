use Rattle.std.proofs.Common.{◌≡◌, ◌++◌, OnOk, refl, sym, subst}
use Rattle.net_types.specs.declared.config.RouteExit.{RouteExit}
use Rattle.net_types.specs.Routes.{installed}
use Rattle.config_checks.specs.Findings.{exit_findings}
use Rattle.config_checks.proofs.routes.Lookups.check_route.Goals as goal

pub returns-in-Both : goal.returns-in-Both
returns-in-Both c =
    let config = c.args.self.now.config.now in
    let route = c.args.route.now in
    subst (λ (x : RouteExit). OnOk c.check_both.result (c.check_both.new.found.items ≡ c.args.found.now.items ++ exit_findings config (installed config) route x)) (sym c.in-Both.is) (c.check_both.ensures (installed config) route refl)

pub returns-in-Port : goal.returns-in-Port
returns-in-Port c =
    let config = c.args.self.now.config.now in
    let route = c.args.route.now in
    subst (λ (x : RouteExit). OnOk c.check_port.result (c.check_port.new.found.items ≡ c.args.found.now.items ++ exit_findings config (installed config) route x)) (sym c.in-Port.is) (c.check_port.ensures (installed config) route refl)
