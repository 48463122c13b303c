use Rattle.std.proofs.Common.{◌≡◌, [], take}
use Rattle.std.specs.Prelude.{filter_map}
use Rattle.place_checks.specs.Homes.{subnet_other}
use Rattle.place_checks.specs.Index.{place_in}
use Rattle.place_checks.specs.Sights.{folder_of}
use Rattle.place_checks.proofs.unlinked.any_other.Given as goal

abbrev pub invariant-loop-subnet : goal.invariant-loop-subnet
invariant-loop-subnet l = filter_map (subnet_other l.segments.table.now (folder_of l.net) (place_in l.place)) (take l.subnet-index l.subnets) ≡ []
