use Rattle.std.proofs.Common.{◌≡◌, ◌++◌, take, flat_map}
use Rattle.audit_view.specs.Audited.{taken_marks}
use Rattle.audit_view.proofs.unknown.add_all_taken.Given as goal

abbrev pub invariant-loop-one : goal.invariant-loop-one
invariant-loop-one l = l.marks.items ≡ l.fn.marks.items ++ flat_map (taken_marks l.list) (take l.one-index l.taken)
