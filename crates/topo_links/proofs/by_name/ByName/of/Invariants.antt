use Rattle.std.proofs.Common.{◌≡◌, ℕ, List, map, find, take}
use Rattle.topo_links.specs.ByName.{is_named}
use Rattle.topo_links.proofs.by_name.ByName.of.Given as goal

abbrev pub invariant-loop-item : goal.invariant-loop-item
invariant-loop-item g l = record {
  names : l.names ≡ map g.T.Named.name_of (map (λ r. r.now) l.firsts.items);
  finds : (n : List ℕ) → find (is_named g.T.Named.name_of n) (map (λ r. r.now) l.firsts.items) ≡ find (is_named g.T.Named.name_of n) (take l.item-index l.items);
}
