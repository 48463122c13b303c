use Rattle.std.proofs.Common.{◌≡◌, ◌++◌, map, take}
use Rattle.topo_links.proofs.net_index.live_addresses.Given as goal

abbrev pub invariant-loop-subnet : goal.invariant-loop-subnet
invariant-loop-subnet l = l.addresses.items ≡ l.initial.addresses.items ++ map (λ s. s.address) (take l.subnet-index l.subnet-items)
