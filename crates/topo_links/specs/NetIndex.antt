-- A network by the names of its devices and their interfaces.
use Rattle.std.specs.Prelude.{◌≡◌, List, map, Option, Some, None, Result, Ok, Err, All}
use Rattle.net_types.specs.declared.config.Interface.{Interface}
use Rattle.topo_links.specs.declared.by_name.ByName.{ByName}
use Rattle.topo_links.specs.declared.net_index.NetIndex.{NetIndex}
use Rattle.topo_links.specs.declared.table.LinkFail.{LinkFail}
use Rattle.topo_links.specs.declared.table.LinkFail.TheVariants as fail
use Rattle.topo_links.specs.ByName.{firsts_of, IsByName}
use Rattle.topo_links.specs.Check.{host_of, interface_name}

-- the interfaces of each device that is a first of its name
abbrev pub interface_lists : List (ByName Interface) → List (List Interface)
interface_lists bs = map (λ b. b.items.now) bs

-- devices are found by their hostnames, and the interfaces of each by their names
pub record IsNet (n : NetIndex) : Type 0 where
  pub devices : IsByName host_of n.devices
  pub interfaces : interface_lists n.interfaces.items ≡ map (λ l. l.config.interfaces) (firsts_of n.devices)
  pub each : All (IsByName interface_name) n.interfaces.items

-- the answer is Ok exactly where nothing is wrong, but for want of memory
abbrev pub Judges : {T : Type 0} → Option LinkFail → Result T LinkFail → Type 0
Judges fault (Ok _) = fault ≡ None
Judges fault (Err fail.NoMemory) = Unit {0}
Judges fault (Err (fail.Refused k n word)) = fault ≡ Some (fail.Refused k n word)
