use Rattle.std.proofs.Common.{take}
use Rattle.live_network.specs.Touched.{AreNamed, HasAll}
use Rattle.live_network.proofs.touched.add_ends.Given as goal

abbrev pub invariant-loop-end : goal.invariant-loop-end
invariant-loop-end l = record {
  named : AreNamed (take l.end-index l.ends) l.names.items;
  kept : HasAll l.fn.names.items l.names.items;
}
