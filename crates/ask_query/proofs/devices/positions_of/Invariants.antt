use Rattle.std.proofs.Common.{◌≡◌, ℕ, List, position, take}
use Rattle.net_types.specs.Routes.{same_text}
use Rattle.ask_query.specs.Devices.{stands_under}
use Rattle.ask_query.proofs.devices.positions_of.Given as goal

abbrev pub invariant-loop-position : goal.invariant-loop-position
invariant-loop-position l = (name : List ℕ) → stands_under l.positions name ≡ position (λ i. same_text i.name name) (take l.position l.interfaces)
