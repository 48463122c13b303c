use Rattle.ios_print.specs.Print.{interface_rows}
use Rattle.ios_print.proofs.Appends.{next_rows}
use Rattle.ios_print.proofs.print.append_interfaces.Goals as goal

pub loop-interface-preserved : goal.loop-interface-preserved
loop-interface-preserved c =
    next_rows interface_rows c.args.interfaces.now c.loop-interface.interface-index c.interface-item.result _ _ _ c.loop-interface-test.true c.interface-item.is c.in_ok-append_interface.ensures c.loop-interface.invariant
