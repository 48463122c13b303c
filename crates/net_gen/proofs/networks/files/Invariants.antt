use Rattle.std.proofs.Common.{◌≡◌, ◌≤◌, ◌+◌, ◌-◌, map}
use Rattle.net_gen.specs.Devices.{numbers}
use Rattle.net_gen.specs.Networks.{file}
use Rattle.net_gen.proofs.networks.files.Given as goal

abbrev pub invariant-loop-j : goal.invariant-loop-j
invariant-loop-j l = record {
  first : 1 ≤ l.j;
  last : l.j ≤ l.size + 1;
  files : l.files.items ≡ map (file l.new l.number l.size) (numbers (l.j - 1));
}
