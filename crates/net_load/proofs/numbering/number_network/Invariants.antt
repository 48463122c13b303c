use Rattle.std.proofs.Common.{◌≡◌, map}
use Rattle.net_load.specs.Numbering.{device_of}
use Rattle.net_load.proofs.numbering.number_network.Given as goal

abbrev pub invariant-loop-loaded : goal.invariant-loop-loaded
invariant-loop-loaded l = l.devices.items ≡ map (device_of l.names) l.yielded
