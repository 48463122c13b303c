use Rattle.std.proofs.Common.{◌≡◌}
use Rattle.window_core.specs.Changes.{devices_after}
use Rattle.window_core.proofs.judging.replaced.Given as goal

abbrev pub invariant-loop-device : goal.invariant-loop-device
invariant-loop-device l = l.after.items ≡ devices_after l.changed l.yielded
