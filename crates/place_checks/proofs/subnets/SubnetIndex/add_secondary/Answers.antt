use Rattle.std.proofs.Common.{◌++◌, map, take, subst, arith}
use Rattle.place_checks.specs.Homes.{home_of}
use Rattle.place_checks.specs.Index.{AreHomes}
use Rattle.place_checks.proofs.Firsts.{push_map}
use Rattle.place_checks.proofs.subnets.SubnetIndex.add_secondary.Goals as goal

pub loop-subnet-preserved : goal.loop-subnet-preserved
loop-subnet-preserved c = λ hs h.
    let f = home_of c.args.device.now c.args.interface.now in
    let i = c.loop-subnet.subnet-index in
    let xs = c.as_slice-subnet-items.result.now in
    subst (AreHomes c.add.new.self) (push_map hs xs i c.subnet-item.result (omega arith) c.subnet-item.is f) (c.in_ok-add.ensures (hs ++ map f (take i xs)) (c.loop-subnet.invariant hs h))
