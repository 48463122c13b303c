use Rattle.std.proofs.Common.{◌≡◌, ◌++◌, take, flat_map}
use Rattle.audit_view.specs.ShownText.{closings_in}
use Rattle.audit_view.proofs.text.append_closings.Given as goal

abbrev pub invariant-loop-one : goal.invariant-loop-one
invariant-loop-one l = l.out.items ≡ l.fn.out.items ++ flat_map closings_in (take l.one-index l.audited)
