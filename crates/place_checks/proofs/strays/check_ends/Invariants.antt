use Rattle.std.proofs.Common.{◌≡◌, ◌++◌, take}
use Rattle.std.specs.Prelude.{flat_map}
use Rattle.place_checks.specs.Strays.{end_strays}
use Rattle.place_checks.specs.Sights.{pair_of}
use Rattle.place_checks.proofs.strays.check_ends.Given as goal

abbrev pub invariant-loop-end : goal.invariant-loop-end
invariant-loop-end l = l.found.items ≡ l.initial.found.items ++ flat_map (end_strays (pair_of l.nets) l.line) (take l.end-index l.end-items)
