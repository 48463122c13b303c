-- A network with its links, and how interfaces and the ends of segments are found in it. Each of these is total: a place
-- may be absent, and of two things of one name the first counts.
use Rattle.std.specs.Prelude.{ℕ, Bool, false, not, ◌&&◌, Option, Some, None, List, find, position, slice_get, ◌==◌, option_and_then, option_map}
use Rattle.std.specs.List.{list_any}
use Rattle.net_types.specs.declared.config.Interface.{Interface}
use Rattle.net_types.specs.declared.network.Links.{Links}
use Rattle.net_types.specs.declared.network.NetDevice.{NetDevice}
use Rattle.net_types.specs.declared.network.Network.{Network}
use Rattle.net_types.specs.declared.network.Place.{Place}
use Rattle.net_types.specs.declared.network.Segment.{Segment}
use Rattle.net_types.specs.Routes.{same_text, subnets, is_enabled, has_address}

-- a network with its links
pub record World : Type 0 where
  pub network : Network
  pub links : Links

-- an interface with its device and its place
pub record Seat : Type 0 where
  pub place : Place
  pub device : NetDevice
  pub interface : Interface

-- two places are one where device and interface have the same numbers
abbrev pub same_place : Place → Place → Bool
same_place p q = p.device == q.device && p.interface == q.interface

-- the interface at a position of its device, if it has a number there
abbrev pub seat_in : NetDevice → ℕ → Option Seat
seat_in d i = option_and_then (λ f. option_map (λ n. record { place = record { device = d.name; interface = n }; device = d; interface = f }) (slice_get d.numbers i)) (slice_get d.config.interfaces i)

-- the interface at the first position that has this number
abbrev pub seat_numbered : NetDevice → ℕ → Option Seat
seat_numbered d number = option_and_then (seat_in d) (position (λ n. n == number) d.numbers)

-- what stands at a place: the first device of that name, and its interface of that number; else the place is absent
abbrev pub seat_at : World → Place → Option Seat
seat_at w p = option_and_then (λ d. seat_numbered d p.interface) (find (λ d. d.name == p.device) w.network.devices)

-- the device's first interface of that name
abbrev pub seat_named : NetDevice → List ℕ → Option Seat
seat_named d name = option_and_then (seat_in d) (position (λ i. same_text i.name name) d.config.interfaces)

-- the first segment that the place is an end of
abbrev pub segment_of : World → Place → Option Segment
segment_of w p = find (λ s. list_any (same_place p) s.ends) w.links.segments

-- an end other than this one
abbrev pub is_other : Place → Place → Bool
is_other p q = not (same_place p q)

abbrev pub seat_passes : (Interface → Bool) → Option Seat → Bool
seat_passes test None = false
seat_passes test (Some seat) = test seat.interface

-- the interface is IP-enabled and has the address
abbrev pub has_live : ℕ → Interface → Bool
has_live a i = is_enabled i && has_address a (subnets i)

-- the interface has the address, but isn't IP-enabled
abbrev pub has_silent : ℕ → Interface → Bool
has_silent a i = not (is_enabled i) && has_address a (subnets i)

-- another end that is IP-enabled and has the address
abbrev pub answers : World → ℕ → Place → Place → Bool
answers w a p q = is_other p q && seat_passes (has_live a) (seat_at w q)

-- another end that has the address, but isn't IP-enabled
abbrev pub is_silent : World → ℕ → Place → Place → Bool
is_silent w a p q = is_other p q && seat_passes (has_silent a) (seat_at w q)
