use Rattle.ios_print.specs.Print.{list_rows}
use Rattle.ios_print.proofs.Appends.{next_rows}
use Rattle.ios_print.proofs.print.append_lists.Goals as goal

pub loop-list-preserved : goal.loop-list-preserved
loop-list-preserved c =
    next_rows list_rows c.args.lists.now c.loop-list.list-index c.list-item.result _ _ _ c.loop-list-test.true c.list-item.is c.in_ok-append_list.ensures c.loop-list.invariant
