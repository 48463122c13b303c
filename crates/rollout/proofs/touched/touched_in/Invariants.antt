use Rattle.std.proofs.Common.{ℕ, take}
use Rattle.cube_diagram.specs.Functions.{Keeps}
use Rattle.net_types.specs.World.{World}
use Rattle.rollout.specs.Touched.{AreTouched, MayTouch}
use Rattle.rollout.proofs.touched.touched_in.Given as goal

abbrev pub invariant-loop-question : goal.invariant-loop-question
invariant-loop-question l = record {
  kept : Keeps l.fn.table l.table;
  touched : (old new : World) (scope : ℕ) → MayTouch old new l.fn.table scope l.reach → AreTouched old new (take l.question-index l.questions) l.touched.items;
}
