use Rattle.std.proofs.Common.{◌≡◌, ℕ, List, find, take}
use Rattle.ask_query.specs.Devices.{is_called, stands_under}
use Rattle.ask_query.proofs.devices.firsts_of.Given as goal

abbrev pub invariant-loop-device : goal.invariant-loop-device
invariant-loop-device l = (name : List ℕ) → stands_under l.firsts name ≡ find (is_called name) (take l.device-index l.devices)
