-- Devices, subnets and segments as they are found by keys.
use Rattle.std.specs.Prelude.{◌≡◌, ℕ, ◌&&◌, List, map, find, nat_eq, Option, option_map}
use Rattle.std.specs.Str.{bytes_eq}
use Rattle.std.specs.Map.{lookup}
use Rattle.net_types.specs.declared.config.Loaded.{Loaded}
use Rattle.topo_links.specs.ByName.{is_named}
use Rattle.topo_links.specs.Check.{host_of, device_named}
use Rattle.topo_links.specs.Ends.{Word, End}
use Rattle.place_checks.specs.declared.devices.Devices.{Devices}
use Rattle.place_checks.specs.declared.segments.Segments.{Segments}
use Rattle.place_checks.specs.declared.subnets.SubnetIndex.{SubnetIndex}
use Rattle.place_checks.specs.declared.nets.Net.{Net}
use Rattle.place_checks.specs.declared.nets.Nets.{Nets}
use Rattle.place_checks.specs.declared.place.PlaceRef.{PlaceRef}
use Rattle.place_checks.specs.Homes.{Home, homes, has_bits, home_place, is_end, all_ends, line_number}

-- the first device of each name, in the order of their names
abbrev pub firsts_of : Devices → List Loaded
firsts_of d = map (λ r. r.now) d.firsts.items

-- each hostname is there with the first device that has it
pub record AreDevices (d : Devices) : Type 0 where
  pub names : d.names ≡ map host_of (firsts_of d)
  pub finds : (n : Word) → find (is_named host_of n) (firsts_of d) ≡ device_named d.folder.now n

abbrev pub place_in : PlaceRef → End
place_in p = (p.device.now, p.interface.now)

-- what is kept for these first bits
abbrev pub kept_place : SubnetIndex → ℕ → ℕ → Option End
kept_place s number length = option_map place_in (lookup (λ k. nat_eq number k.0 && nat_eq length k.1) s.firsts.entries)

-- the first place of each subnet is kept
abbrev pub AreHomes : SubnetIndex → List Home → Type 0
AreHomes s hs = (number length : ℕ) → kept_place s number length ≡ option_map home_place (find (has_bits number length) hs)

-- what is kept for an end
abbrev pub kept_line : Segments → End → Option ℕ
kept_line s e = lookup (λ k. bytes_eq e.0 k.0.items && bytes_eq e.1 k.1.items) s.lines.entries

-- the first line of each end is kept
abbrev pub AreEnds : Segments → List (End × ℕ) → Type 0
AreEnds s ps = (e : End) → kept_line s e ≡ option_map line_number (find (is_end e) ps)

-- those of the lines of the table
abbrev pub AreSegments : Segments → Type 0
AreSegments s = AreEnds s (all_ends s.table.now)

-- a network by its devices and its subnets
pub record IsNet (n : Net) : Type 0 where
  pub devices : AreDevices n.devices
  pub subnets : AreHomes n.subnets (homes n.devices.folder.now)

-- both networks
pub record AreNets (n : Nets) : Type 0 where
  pub old : IsNet n.old.now
  pub new : IsNet n.new.now
