use Rattle.std.proofs.Common.{◌≡◌, take, filter_map}
use Rattle.audit_view.specs.Lists.{entry_in}
use Rattle.audit_view.proofs.lists.entries_in.Given as goal

abbrev pub invariant-loop-line : goal.invariant-loop-line
invariant-loop-line l = l.found.items ≡ filter_map (entry_in l.bytes l.name) (take l.line-index l.lines)
