use Rattle.std.proofs.Common.{◌≡◌, ℕ, Vec, Global, map, take}
use Rattle.topo_links.specs.Check.{end_addresses}
use Rattle.topo_links.proofs.net_index.NetIndex.all_addresses.Given as goal

abbrev pub invariant-loop-device : goal.invariant-loop-device
invariant-loop-device l = map (λ (v : Vec ℕ Global). v.items) l.lists.items ≡ map (end_addresses l.self.devices.items.now) (take l.device-index l.ends)
