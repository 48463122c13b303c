use Rattle.std.proofs.Common.{◌≡◌, ◌++◌, map, drop}
use Rattle.std.specs.Prelude.{flat_map}
use Rattle.net_text.specs.Texts.{spell}
use Rattle.ios_print.specs.Print.{route_row}
use Rattle.ios_print.proofs.print.append_routes.Given as goal

abbrev pub invariant-loop-route : goal.invariant-loop-route
invariant-loop-route l = l.out.items ++ flat_map spell (map route_row (drop l.route-index l.routes)) ≡ l.initial.out.items ++ flat_map spell (map route_row l.routes)
