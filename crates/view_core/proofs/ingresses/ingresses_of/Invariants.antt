use Rattle.std.proofs.Common.{◌≡◌, ◌++◌, ◌≤◌, ◌*◌, ◌^◌, [], codes, take, map, flat_map, All}
use Rattle.view_core.specs.Ingresses.{IsIngress}
use Rattle.view_core.proofs.ingresses.ingresses_of.Given as goal

abbrev pub invariant-loop-section : goal.invariant-loop-section
invariant-loop-section l = (map (λ i. i.section) l.ingresses.items ≡ l.yielded) × All IsIngress l.ingresses.items
