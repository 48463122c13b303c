use Rattle.std.proofs.Common.{◌≡◌, ℕ, take, position}
use Rattle.std.specs.Prelude.{◌==◌, nat_eq}
use Rattle.indexmap.specs.IndexMap.{get}
use Rattle.link_sends.proofs.device_index.device_numbers.Given as goal

abbrev pub invariant-loop-i : goal.invariant-loop-i
invariant-loop-i l = (name : ℕ) → get nat_eq l.numbers name ≡ position (λ d. d.name == name) (take l.i l.devices)
