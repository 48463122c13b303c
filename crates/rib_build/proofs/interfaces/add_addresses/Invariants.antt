use Rattle.std.proofs.Common.{◌≡◌, ℕ, take}
use Rattle.std.specs.Prelude.{◌||◌, nat_eq}
use Rattle.std.specs.HashSet.{contains}
use Rattle.net_types.specs.Routes.{has_address}
use Rattle.rib_build.proofs.interfaces.add_addresses.Given as goal

abbrev pub invariant-loop-subnet : goal.invariant-loop-subnet
invariant-loop-subnet l =
    (a : ℕ) → contains nat_eq l.own a ≡ (contains nat_eq l.initial.own a || has_address a (take l.subnet-index l.subnet-items))
