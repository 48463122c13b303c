use Rattle.std.proofs.Common.{◌≡◌, ◌++◌, take, map}
use Rattle.net_types.specs.Routes.{connected_by}
use Rattle.net_view.proofs.routes.add_connected.Given as goal

abbrev pub invariant-loop-subnet : goal.invariant-loop-subnet
invariant-loop-subnet l = l.routes.items ≡ l.initial.routes.items ++ map (connected_by l.interface) (take l.subnet-index l.subnet-items)
