use Rattle.std.proofs.Common.{List, Option, sym, subst, take, ◌+◌}
use Rattle.set_walk.specs.declared.numbers.OutcomeList.{OutcomeList}
use Rattle.net_compare.specs.declared.classes.Classed.{Classed}
use Rattle.net_compare.specs.Classes.{AreClassed, IsClassedOf}
use Rattle.net_compare.proofs.SectionLemmas.{zip_more}
use Rattle.net_compare.proofs.classes.Classes.classed_all.Goals as goal

pub loop-list-preserved : goal.loop-list-preserved
loop-list-preserved c =
    let store = c.args.self.now.store in
    let labels = c.args.labels.now in
    let i = c.loop-list.list-index in
    let list : OutcomeList = c.list-item.result in
    let classed : Option Classed = c.in_ok-classed.classed in
    let own = subst (λ (l : OutcomeList). IsClassedOf store l classed) c.list-item.is c.in_ok-classed.ensures in
    record {
      all = subst (λ (cs : List (Option Classed)). AreClassed store (take (i + 1) labels) cs) (sym c.in_ok-push.ensures.items)
          (zip_more (IsClassedOf store) labels c.loop-list.all.items i list classed c.loop-list-test.true c.loop-list.invariant.all own);
    }
