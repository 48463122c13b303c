use Rattle.std.proofs.Common.{◌≡◌, ◌++◌, take}
use Rattle.std.specs.Prelude.{flat_map}
use Rattle.net_types.specs.Routes.{connected}
use Rattle.net_view.proofs.routes.every_route.Given as goal

abbrev pub invariant-loop-interface : goal.invariant-loop-interface
invariant-loop-interface l = l.routes.items ≡ l.config.routes ++ flat_map connected (take l.interface-index l.interface-items)
