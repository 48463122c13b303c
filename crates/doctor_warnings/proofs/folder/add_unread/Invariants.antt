use Rattle.std.proofs.Common.{◌≡◌, ◌++◌, take}
use Rattle.doctor_warnings.specs.Warnings.{unread_warnings}
use Rattle.doctor_warnings.proofs.folder.add_unread.Given as goal

abbrev pub invariant-loop-name : goal.invariant-loop-name
invariant-loop-name l = l.warnings.items ≡ l.fn.warnings.items ++ unread_warnings l.folder.path (take l.name-index l.folder.unread)
