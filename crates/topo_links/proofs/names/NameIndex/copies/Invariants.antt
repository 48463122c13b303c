use Rattle.std.proofs.Common.{◌≡◌, ℕ, map, take, Vec, Global}
use Rattle.topo_links.proofs.names.NameIndex.copies.Given as goal

abbrev pub invariant-loop-name : goal.invariant-loop-name
invariant-loop-name l = l.names.items ≡ map (λ (k : Vec ℕ Global). k.items) (take l.name-index l.name-items)
