use Rattle.std.proofs.Common.{◌≡◌, ◌≤◌, ◌+◌, ◌*◌, ◌-◌, map}
use Rattle.net_gen.specs.Draws.{state}
use Rattle.net_gen.specs.Devices.{numbers, to_network}
use Rattle.net_gen.proofs.devices.to_networks.Given as goal

abbrev pub invariant-loop-j : goal.invariant-loop-j
invariant-loop-j l = record {
  first : 1 ≤ l.j;
  last : l.j ≤ l.size + 1;
  state : l.state ≡ state l.number (2 * (l.j - 1));
  entries : l.entries.items ≡ map (to_network l.number) (numbers (l.j - 1));
}
