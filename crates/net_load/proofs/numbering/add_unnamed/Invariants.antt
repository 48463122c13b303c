use Rattle.std.proofs.Common.{◌≡◌, ◌++◌, take}
use Rattle.net_load.specs.Numbering.{unnamed}
use Rattle.net_load.proofs.numbering.add_unnamed.Given as goal

abbrev pub invariant-loop-place : goal.invariant-loop-place
invariant-loop-place l = l.found.items ≡ l.initial.found.items ++ unnamed l.names (take l.place-index l.places)
