use Rattle.std.proofs.Common.{◌≡◌, ◌++◌, take, map, true}
use Rattle.audit_view.proofs.unknown.add_rows.Given as goal

abbrev pub invariant-loop-row : goal.invariant-loop-row
invariant-loop-row l = l.marks.items ≡ l.fn.marks.items ++ map (λ row. true) (take l._row-index l.rows)
