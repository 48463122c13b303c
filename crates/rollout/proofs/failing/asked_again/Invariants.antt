use Rattle.std.proofs.Common.{◌≡◌, ◌++◌, drop}
use Rattle.rollout.specs.Touched.{asked_again}
use Rattle.rollout.proofs.failing.asked_again.Given as goal

abbrev pub invariant-loop-i : goal.invariant-loop-i
invariant-loop-i l = l.asked.items ++ asked_again (drop l.i l.questions) (drop l.i l.touched) ≡ asked_again l.questions l.touched
