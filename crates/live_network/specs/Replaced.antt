-- A network in which one device is replaced.
use Rattle.std.specs.Prelude.{ℕ, ◌≡◌, ◌==◌, List, Option, Some, None, find, position, slice_set}
use Rattle.net_types.specs.declared.network.NetDevice.{NetDevice}
use Rattle.net_types.specs.declared.network.Network.{Network}
use Rattle.net_types.specs.World.{World}

-- of the same links, the network w has y where v has x, of the same name, and every other device of v
pub record IsReplaced (v w : World) (x y : NetDevice) : Type 0 where
  pub links : v.links ≡ w.links
  pub name : x.name ≡ y.name
  pub before : find (λ d. d.name == x.name) v.network.devices ≡ Some x
  pub after : find (λ d. d.name == y.name) w.network.devices ≡ Some y
  pub others : (n : ℕ) → (n ≡ y.name → ⊥) → find (λ d. d.name == n) v.network.devices ≡ find (λ d. d.name == n) w.network.devices

abbrev pub set_if_any : Option ℕ → NetDevice → List NetDevice → List NetDevice
set_if_any None y devices = devices
set_if_any (Some i) y devices = slice_set devices i y

-- the device stands in the place of the first one of its name, if there is one
abbrev pub with_device : NetDevice → Network → Network
with_device y network = record { devices = set_if_any (position (λ d. d.name == y.name) network.devices) y network.devices }
