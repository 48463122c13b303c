use Rattle.std.proofs.Common.{take}
use Rattle.place_checks.specs.Homes.{homes}
use Rattle.place_checks.specs.Index.{AreHomes}
use Rattle.place_checks.proofs.subnets.SubnetIndex.of.Given as goal

abbrev pub invariant-loop-device : goal.invariant-loop-device
invariant-loop-device l = AreHomes l.subnets (homes (take l.device-index l.folder))
