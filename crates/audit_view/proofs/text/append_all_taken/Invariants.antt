use Rattle.std.proofs.Common.{◌≡◌, ◌++◌, take, flat_map}
use Rattle.audit_view.specs.ShownText.{taken_text}
use Rattle.audit_view.proofs.text.append_all_taken.Given as goal

abbrev pub invariant-loop-one : goal.invariant-loop-one
invariant-loop-one l = l.out.items ≡ l.fn.out.items ++ flat_map (taken_text l.rows l.list) (take l.one-index l.taken)
