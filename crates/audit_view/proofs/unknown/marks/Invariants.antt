use Rattle.std.proofs.Common.{◌≡◌, ◌++◌, take, flat_map}
use Rattle.audit_view.specs.Audited.{list_marks}
use Rattle.audit_view.proofs.unknown.marks.Given as goal

abbrev pub invariant-loop-one : goal.invariant-loop-one
invariant-loop-one l = l.marks.items ≡ l.initial.marks.items ++ flat_map list_marks (take l.one-index l.audited)
