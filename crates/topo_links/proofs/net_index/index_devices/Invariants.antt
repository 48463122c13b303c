use Rattle.std.proofs.Common.{◌≡◌, map, take, All}
use Rattle.topo_links.specs.ByName.{IsByName}
use Rattle.topo_links.specs.Check.{interface_name}
use Rattle.topo_links.specs.NetIndex.{interface_lists}
use Rattle.topo_links.proofs.net_index.index_devices.Given as goal

abbrev pub invariant-loop-device : goal.invariant-loop-device
invariant-loop-device l = record {
  lists : interface_lists l.found.items ≡ map (λ l. l.now.config.interfaces) (take l.device-index l.devices);
  each : All (IsByName interface_name) l.found.items;
}
