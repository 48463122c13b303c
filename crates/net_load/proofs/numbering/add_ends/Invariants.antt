use Rattle.std.proofs.Common.{◌≡◌, take}
use Rattle.topo_links.specs.Names.{add_names}
use Rattle.topo_links.specs.Table.{end_names}
use Rattle.net_load.proofs.numbering.add_ends.Given as goal

abbrev pub invariant-loop-device : goal.invariant-loop-device
invariant-loop-device l = l.names ≡ add_names l.initial.names (end_names (take l.device-index l.ends))
