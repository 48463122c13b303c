use Rattle.std.proofs.Common.{◌≡◌, ◌++◌, take}
use Rattle.std.specs.Prelude.{flat_map}
use Rattle.net_types.specs.Routes.{installed}
use Rattle.config_checks.specs.Findings.{route_findings}
use Rattle.config_checks.proofs.checks.check_routes.Given as goal

abbrev pub invariant-loop-route : goal.invariant-loop-route
invariant-loop-route l = l.found.items ≡ l.initial.found.items ++ flat_map (route_findings l.config (installed l.config)) (take l.route-index l.route-items)
