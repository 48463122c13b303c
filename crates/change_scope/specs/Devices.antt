-- Devices that can be compared by their functions, and devices that do the same with all headers outside a set.
use Rattle.std.specs.Prelude.{ℕ, ◌≡◌, ◌↔◌, List, Some, Contains, length, slice_get}
use Rattle.hdr_bits.specs.declared.header.Header.{Header}
use Rattle.hdr_bits.specs.HeaderBits.{IsHeader}
use Rattle.cube_diagram.specs.Functions.{Functions}
use Rattle.link_sends.specs.Sending.{SendAlike}
use Rattle.net_types.specs.declared.config.Interface.{Interface}
use Rattle.net_types.specs.declared.network.Move.{Move}
use Rattle.net_types.specs.declared.network.NetDevice.{NetDevice}
use Rattle.net_types.specs.declared.network.Place.{Place}
use Rattle.net_types.specs.Moves.{moves}
use Rattle.net_types.specs.Routes.{is_enabled}
use Rattle.net_types.specs.World.{World}
use Rattle.set_walk.specs.Sets.{InSet}

-- the interfaces have one name and one side, and both are IP-enabled or neither
pub record IsSameSeat (x y : Interface) : Type 0 where
  pub name : x.name ≡ y.name
  pub side : x.side ≡ y.side
  pub enabled : is_enabled x ≡ is_enabled y

-- so is each interface and the one at its position
pub record HaveSameSeats (xs ys : List Interface) : Type 0 where
  pub count : length ys ≡ length xs
  pub each : (i : ℕ) (x y : Interface) → slice_get xs i ≡ Some x → slice_get ys i ≡ Some y → IsSameSeat x y

-- two devices with the same translation rules and interfaces, which send alike
pub record AreComparable (w v : World) (a b : NetDevice) : Type 0 where
  pub numbers : a.numbers ≡ b.numbers
  pub rules : a.config.nat ≡ b.config.nat
  pub seats : HaveSameSeats a.config.interfaces b.config.interfaces
  pub sends : (n : ℕ) → Contains a.numbers n → SendAlike w v (record { device = a.name; interface = n })

-- whatever header outside the set arrives at the device of this name has the same moves in both worlds
abbrev pub AreAlikeAt : World → World → Functions → ℕ → ℕ → Type 0
AreAlikeAt w v fs set name = (p : Place) → p.device ≡ name → (h : Header) → IsHeader h → (InSet fs set h → ⊥) → (m : Move) → Contains (moves w p h) m ↔ Contains (moves v p h) m
