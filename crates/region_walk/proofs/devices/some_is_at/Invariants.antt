use Rattle.std.proofs.Common.{take}
use Rattle.region_walk.specs.Lists.{items_at}
use Rattle.region_walk.specs.Devices.{IsAmong}
use Rattle.region_walk.proofs.devices.some_is_at.Given as goal

abbrev pub invariant-loop-state : goal.invariant-loop-state
invariant-loop-state l = IsAmong l.device (items_at l.visits (take l.state-index l.states)) → ⊥
