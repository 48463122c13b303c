use Rattle.transfer_rel.specs.CubeMoves.{SameSet}
use Rattle.region_walk.specs.Returns.{numbers_after}
use Rattle.region_walk.proofs.ReturnLemmas.{NoneBack}
use Rattle.region_walk.proofs.returns.comes_back.Given as goal

abbrev pub invariant-loop-n : goal.invariant-loop-n
invariant-loop-n l = record {
  states : SameSet l.states.items (numbers_after l.visits l._n l.state);
  none : NoneBack l.visits l._n l.state;
}
