use Rattle.std.proofs.Common.{◌≡◌, ◌≤◌, ℕ, Vec, Global, map, drop, length}
use Rattle.topo_links.specs.Check.{has_value, least}
use Rattle.topo_links.specs.Shared.{is_in, shared}
use Rattle.topo_links.proofs.shared.least_shared.Given as goal

abbrev pub invariant-loop-i : goal.invariant-loop-i
invariant-loop-i l = record {
  within : l.i ≤ length l.lists;
  seen : (a : ℕ) → has_value a l.seen.keys ≡ is_in (map (λ (v : Vec ℕ Global). v.items) (drop l.i l.lists)) a;
  least : l.least ≡ least (shared (map (λ (v : Vec ℕ Global). v.items) (drop l.i l.lists)));
}

abbrev pub decreases-loop-i : goal.decreases-loop-i
decreases-loop-i l = l.i
