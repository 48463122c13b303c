use Rattle.std.proofs.Common.{◌≡◌, ◌++◌, take, flat_map}
use Rattle.audit_view.specs.ShownText.{list_part}
use Rattle.audit_view.proofs.text.append_lists.Given as goal

abbrev pub invariant-loop-one : goal.invariant-loop-one
invariant-loop-one l = l.out.items ≡ l.fn.out.items ++ flat_map (list_part l.rows) (take l.one-index l.audited)
