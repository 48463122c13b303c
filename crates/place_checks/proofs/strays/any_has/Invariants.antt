use Rattle.std.proofs.Common.{◌≡◌, take, false}
use Rattle.std.specs.List.{list_any}
use Rattle.place_checks.specs.Strays.{end_has}
use Rattle.place_checks.specs.Sights.{folder_of}
use Rattle.place_checks.proofs.strays.any_has.Given as goal

abbrev pub invariant-loop-end : goal.invariant-loop-end
invariant-loop-end l = list_any (end_has (folder_of l.net) l.address) (take l.end-index l.ends) ≡ false
