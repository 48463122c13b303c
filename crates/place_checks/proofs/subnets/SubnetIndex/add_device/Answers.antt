use Rattle.std.proofs.Common.{◌++◌, take, subst, arith}
use Rattle.std.specs.Prelude.{flat_map}
use Rattle.place_checks.specs.Homes.{interface_homes}
use Rattle.place_checks.specs.Index.{AreHomes}
use Rattle.place_checks.proofs.Firsts.{push_flat}
use Rattle.place_checks.proofs.subnets.SubnetIndex.add_device.Goals as goal

pub loop-interface-preserved : goal.loop-interface-preserved
loop-interface-preserved c = λ hs h.
    let f = interface_homes c.args.device.now in
    let i = c.loop-interface.interface-index in
    let xs = c.as_slice-interface-items.result.now in
    subst (AreHomes c.add_interface.new.self) (push_flat hs xs i c.interface-item.result (omega arith) c.interface-item.is f) (c.in_ok-add_interface.ensures (hs ++ flat_map f (take i xs)) (c.loop-interface.invariant hs h))
