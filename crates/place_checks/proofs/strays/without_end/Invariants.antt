use Rattle.std.proofs.Common.{◌≡◌, take, filter}
use Rattle.place_checks.specs.Strays.{is_stray}
use Rattle.place_checks.specs.Sights.{folder_of}
use Rattle.place_checks.proofs.strays.without_end.Given as goal

abbrev pub invariant-loop-next : goal.invariant-loop-next
invariant-loop-next l = l.strays.items ≡ filter (is_stray (folder_of l.net) l.ends) (take l.next-index l.nexts)
