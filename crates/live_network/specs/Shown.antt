-- What a device answers its neighbours: the addresses of its interfaces.
use Rattle.std.specs.Prelude.{ℕ, ◌≡◌, List, Contains}
use Rattle.net_types.specs.declared.config.Interface.{Interface}
use Rattle.net_types.specs.declared.network.NetDevice.{NetDevice}
use Rattle.net_types.specs.declared.network.Place.{Place}
use Rattle.net_types.specs.Routes.{is_enabled, subnets}
use Rattle.net_types.specs.World.{seat_numbered, seat_passes, has_live, has_silent}

-- both are IP-enabled or neither is, and they have the same addresses
pub record AnswerAlike (i j : Interface) : Type 0 where
  pub enabled : is_enabled i ≡ is_enabled j
  pub addresses : subnets i ≡ subnets j

-- what the two devices have at this number answers for the same addresses
pub record AnswerAlikeAt (x y : NetDevice) (n : ℕ) : Type 0 where
  pub live : (a : ℕ) → seat_passes (has_live a) (seat_numbered x n) ≡ seat_passes (has_live a) (seat_numbered y n)
  pub silent : (a : ℕ) → seat_passes (has_silent a) (seat_numbered x n) ≡ seat_passes (has_silent a) (seat_numbered y n)

-- so it is at each of these places that is one of the device
abbrev pub EndsAnswerAlike : NetDevice → NetDevice → List Place → Type 0
EndsAnswerAlike x y ends = (p : Place) → Contains ends p → p.device ≡ y.name → AnswerAlikeAt x y p.interface
