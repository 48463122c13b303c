use Rattle.std.proofs.Common.{◌≡◌, ◌++◌, take, map}
use Rattle.place_checks.specs.Strays.{stray_in_old}
use Rattle.place_checks.specs.Index.{place_in}
use Rattle.place_checks.proofs.strays.tell_old.Given as goal

abbrev pub invariant-loop-next : goal.invariant-loop-next
invariant-loop-next l = l.found.items ≡ l.initial.found.items ++ map (stray_in_old l.line (place_in l.place) l.new) (take l.next-index l.old)
