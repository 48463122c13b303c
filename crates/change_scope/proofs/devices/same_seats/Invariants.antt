use Rattle.std.proofs.Common.{ℕ, ◌≡◌, ◌<◌, Some, slice_get}
use Rattle.net_types.specs.declared.config.Interface.{Interface}
use Rattle.change_scope.specs.Devices.{IsSameSeat}
use Rattle.change_scope.proofs.devices.same_seats.Given as goal

abbrev pub invariant-loop-i : goal.invariant-loop-i
invariant-loop-i l = (k : ℕ) → k < l.i → (x y : Interface) → slice_get l.a k ≡ Some x → slice_get l.b k ≡ Some y → IsSameSeat x y
