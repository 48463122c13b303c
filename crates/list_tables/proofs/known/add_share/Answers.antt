use Rattle.std.proofs.Common.{List, All, sym, subst}
use Rattle.list_tables.specs.declared.shares.MadeList.{MadeList}
use Rattle.list_tables.specs.Made.{IsMadeList}
use Rattle.list_tables.proofs.known.add_share.Goals as goal

pub loop-list-preserved : goal.loop-list-preserved
loop-list-preserved c =
    let table = c.args.share.now.table in
    record {
      copied = c.in_ok-add_made.ensures.copied;
      known = λ both made before. c.in_ok-add_made.ensures.known both ((subst (λ (ls : List MadeList). All (IsMadeList table both) ls) (sym c.deref-list-items.ensures.value) made) c.loop-list.list-index _ c.loop-list-test.true) (c.loop-list.invariant.known both made before);
    }
