use Rattle.std.proofs.Common.{◌≡◌, map, take}
use Rattle.rollout.specs.Steps.{device_after}
use Rattle.rollout.proofs.network.network_after.Given as goal

abbrev pub invariant-loop-device : goal.invariant-loop-device
invariant-loop-device l = l.devices.items ≡ map (device_after l.change) (take l.device-index l.before)
