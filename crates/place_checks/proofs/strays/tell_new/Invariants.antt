use Rattle.std.proofs.Common.{◌≡◌, ◌++◌, take, map, filter}
use Rattle.place_checks.specs.Strays.{stray_in_new, is_added}
use Rattle.place_checks.specs.Index.{place_in}
use Rattle.place_checks.proofs.strays.tell_new.Given as goal

abbrev pub invariant-loop-next : goal.invariant-loop-next
invariant-loop-next l = l.found.items ≡ l.initial.found.items ++ map (stray_in_new l.line (place_in l.place)) (filter (is_added l.old) (take l.next-index l.new))
