use Rattle.std.proofs.Common.{◌≡◌, take}
use Rattle.place_checks.specs.Strays.{nexts_over}
use Rattle.place_checks.proofs.strays.nexts_over.Given as goal

abbrev pub invariant-loop-route : goal.invariant-loop-route
invariant-loop-route l = l.nexts.keys ≡ nexts_over l.interface (take l.route-index l.routes)
