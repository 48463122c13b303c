use Rattle.std.proofs.Common.{◌≡◌, ◌++◌, drop}
use Rattle.std.specs.Vec.Iter.{into_iter_items}
use Rattle.rollout.specs.Touched.{with_others}
use Rattle.rollout.proofs.failing.with_others.Given as goal

abbrev pub invariant-loop-is_touched : goal.invariant-loop-is_touched
invariant-loop-is_touched l = l.answers.items ++ with_others (drop l.is_touched-index l.touched) (into_iter_items l.rest) ≡ with_others l.touched l.fn.told.items
