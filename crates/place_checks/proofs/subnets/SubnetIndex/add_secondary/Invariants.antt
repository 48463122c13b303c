use Rattle.std.proofs.Common.{List, ◌++◌, map, take}
use Rattle.place_checks.specs.Homes.{Home, home_of}
use Rattle.place_checks.specs.Index.{AreHomes}
use Rattle.place_checks.proofs.subnets.SubnetIndex.add_secondary.Given as goal

abbrev pub invariant-loop-subnet : goal.invariant-loop-subnet
invariant-loop-subnet l = (hs : List Home) → AreHomes l.initial.self hs → AreHomes l.self (hs ++ map (home_of l.device l.interface) (take l.subnet-index l.subnet-items))
