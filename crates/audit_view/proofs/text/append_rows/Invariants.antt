use Rattle.std.proofs.Common.{◌≡◌, ◌++◌, take, flat_map}
use Rattle.audit_view.specs.ShownText.{row_line}
use Rattle.audit_view.proofs.text.append_rows.Given as goal

abbrev pub invariant-loop-text : goal.invariant-loop-text
invariant-loop-text l = l.out.items ≡ l.fn.out.items ++ flat_map row_line (take l.text-index l.texts)
