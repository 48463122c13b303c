use Rattle.std.proofs.Common.{◌≡◌, filter, map, take}
use Rattle.place_checks.specs.Ethernet.{is_met}
use Rattle.place_checks.specs.Sights.{pair_of}
use Rattle.place_checks.proofs.ethernet.ethernet_links.Given as goal

abbrev pub invariant-loop-line : goal.invariant-loop-line
invariant-loop-line l = l.found.items ≡ map (λ x. x.line) (filter (is_met (pair_of l.nets)) (take l.line-index l.lines))
