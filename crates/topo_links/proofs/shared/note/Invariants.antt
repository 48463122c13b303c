use Rattle.std.proofs.Common.{◌≡◌, ℕ, ◌||◌, take}
use Rattle.topo_links.specs.Check.{has_value}
use Rattle.topo_links.proofs.shared.note.Given as goal

abbrev pub invariant-loop-address : goal.invariant-loop-address
invariant-loop-address l = (a : ℕ) → has_value a l.seen.keys ≡ (has_value a l.initial.seen.keys || has_value a (take l.address-index l.addresses))
