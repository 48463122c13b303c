use Rattle.std.proofs.Common.{◌≡◌, take}
use Rattle.net_load.specs.Numbering.{places_of}
use Rattle.net_load.proofs.numbering.number_ends.Given as goal

abbrev pub invariant-loop-device : goal.invariant-loop-device
invariant-loop-device l = l.places.items ≡ places_of l.names (take l.device-index l.ends)
