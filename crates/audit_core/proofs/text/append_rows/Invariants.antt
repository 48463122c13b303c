use Rattle.audit_core.proofs.text.append_rows.Given as goal
use Rattle.std.proofs.Common.{◌≡◌, ◌++◌, take}
use Rattle.std.specs.List.{flat_map}
use Rattle.report_text.specs.FieldText.{cube_text}
use Rattle.result_text.specs.AuditText.{line}

abbrev pub invariant-loop-row : goal.invariant-loop-row
invariant-loop-row l = l.out.items ≡ l.fn.out.items ++ flat_map (λ r. line (cube_text r)) (take l.row-index l.rows)
