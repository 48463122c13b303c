-- The devices that a replaced device touches, by their names.
use Rattle.std.specs.Prelude.{ℕ, ◌≡◌, ◌⊎◌, true, List, Contains}
use Rattle.net_types.specs.declared.network.NetDevice.{NetDevice}
use Rattle.net_types.specs.declared.network.Place.{Place}
use Rattle.net_types.specs.declared.network.Segment.{Segment}
use Rattle.live_network.specs.Shown.{EndsAnswerAlike}

-- the devices of these places are named
abbrev pub AreNamed : List Place → List ℕ → Type 0
AreNamed ends names = (p : Place) → Contains ends p → Contains names p.device

-- all of the first are among the second
abbrev pub HasAll : List ℕ → List ℕ → Type 0
HasAll some all = (n : ℕ) → Contains some n → Contains all n

-- where the segment is a lan, the device answers alike at its ends, or all devices on it are named
abbrev pub IsNamedIn : NetDevice → NetDevice → List ℕ → Segment → Type 0
IsNamedIn x y names s = s.lan ≡ true → EndsAnswerAlike x y s.ends ⊎ AreNamed s.ends names

abbrev pub AreTouched : NetDevice → NetDevice → List Segment → List ℕ → Type 0
AreTouched x y segments names = (s : Segment) → Contains segments s → IsNamedIn x y names s
