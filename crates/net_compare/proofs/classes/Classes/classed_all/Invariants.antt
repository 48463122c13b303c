use Rattle.std.proofs.Common.{take}
use Rattle.net_compare.specs.Classes.{AreClassed}
use Rattle.net_compare.proofs.classes.Classes.classed_all.Given as goal

abbrev pub invariant-loop-list : goal.invariant-loop-list
invariant-loop-list l = record {
  all : AreClassed l.self.store (take l.list-index l.labels) l.all.items;
}
