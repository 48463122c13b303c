use Rattle.std.proofs.Common.{◌≡◌, ℕ, List, map, find, take}
use Rattle.topo_links.specs.ByName.{is_named}
use Rattle.topo_links.specs.Check.{host_of}
use Rattle.place_checks.proofs.devices.Devices.of.Given as goal

abbrev pub invariant-loop-device : goal.invariant-loop-device
invariant-loop-device l = record {
  names : l.names ≡ map host_of (map (λ r. r.now) l.firsts.items);
  finds : (n : List ℕ) → find (is_named host_of n) (map (λ r. r.now) l.firsts.items) ≡ find (is_named host_of n) (take l.device-index l.folder);
}
