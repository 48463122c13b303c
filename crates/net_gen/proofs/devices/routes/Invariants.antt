use Rattle.std.proofs.Common.{◌≡◌, ◌≤◌, ◌+◌, ◌-◌}
use Rattle.std.specs.Prelude.{flat_map}
use Rattle.net_gen.specs.Devices.{numbers, routes_to}
use Rattle.net_gen.proofs.devices.routes.Given as goal

abbrev pub invariant-loop-i : goal.invariant-loop-i
invariant-loop-i l = record {
  first : 1 ≤ l.i;
  last : l.i ≤ l.size + 1;
  routes : l.routes.items ≡ flat_map (routes_to l.j) (numbers (l.i - 1));
}
