use Rattle.std.proofs.Common.{◌≡◌, ◌≤◌, ◌-◌, map}
use Rattle.net_gen.specs.Devices.{numbers}
use Rattle.net_gen.specs.Networks.{link}
use Rattle.net_gen.proofs.networks.links.Given as goal

abbrev pub invariant-loop-j : goal.invariant-loop-j
invariant-loop-j l = record {
  first : 1 ≤ l.j;
  last : l.j ≤ l.size;
  lines : l.lines.items ≡ map link (numbers (l.j - 1));
}
