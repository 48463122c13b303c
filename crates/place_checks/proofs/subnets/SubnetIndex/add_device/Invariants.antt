use Rattle.std.proofs.Common.{List, ◌++◌, take}
use Rattle.std.specs.Prelude.{flat_map}
use Rattle.place_checks.specs.Homes.{Home, interface_homes}
use Rattle.place_checks.specs.Index.{AreHomes}
use Rattle.place_checks.proofs.subnets.SubnetIndex.add_device.Given as goal

abbrev pub invariant-loop-interface : goal.invariant-loop-interface
invariant-loop-interface l = (hs : List Home) → AreHomes l.initial.self hs → AreHomes l.self (hs ++ flat_map (interface_homes l.device) (take l.interface-index l.interface-items))
