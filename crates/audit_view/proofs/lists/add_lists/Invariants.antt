use Rattle.std.proofs.Common.{◌≡◌, ◌++◌, take, map}
use Rattle.audit_view.specs.Lists.{folder_list}
use Rattle.audit_view.proofs.lists.add_lists.Given as goal

abbrev pub invariant-loop-list : goal.invariant-loop-list
invariant-loop-list l = l.found.items ≡ l.fn.found.items ++ map (folder_list l.device.file l.bytes l.lines.items) (take l.list-index l.device.config.lists)
