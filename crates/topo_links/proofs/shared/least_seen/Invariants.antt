use Rattle.std.proofs.Common.{◌≡◌, ◌≤◌, drop, filter, length}
use Rattle.topo_links.specs.Check.{has_value}
use Rattle.topo_links.specs.Shared.{least_onto}
use Rattle.topo_links.proofs.shared.least_seen.Given as goal

abbrev pub invariant-loop-i : goal.invariant-loop-i
invariant-loop-i l = record {
  within : l.i ≤ length l.addresses;
  best : l.best ≡ least_onto (filter (λ a. has_value a l.seen.keys) (drop l.i l.addresses)) l.initial.best;
}

abbrev pub decreases-loop-i : goal.decreases-loop-i
decreases-loop-i l = l.i
