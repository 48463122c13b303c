use Rattle.std.proofs.Common.{take}
use Rattle.region_walk.specs.Returns.{SomeComesBack}
use Rattle.region_walk.proofs.returns.some_comes_back.Given as goal

abbrev pub invariant-loop-state : goal.invariant-loop-state
invariant-loop-state l = SomeComesBack l.visits l.limit (take l.state-index l.states) → ⊥
