-- Where subnets are in a network, and which segment an interface is on.
use Rattle.std.specs.Prelude.{ℕ, Bool, false, not, ◌&&◌, ◌==◌, List, Option, Some, None, map, flat_map, filter_map, find, nat_lt, option_and_then, option_map, if◌then◌else◌}
use Rattle.std.specs.Str.{bytes_eq}
use Rattle.net_types.specs.declared.config.Interface.{Interface}
use Rattle.net_types.specs.declared.config.Loaded.{Loaded}
use Rattle.net_types.specs.declared.config.Subnet.{Subnet}
use Rattle.net_types.specs.Routes.{prefix_number, live_subnets}
use Rattle.topo_links.specs.declared.table.LinkLine.{LinkLine}
use Rattle.topo_links.specs.Ends.{End, is_same_end}
use Rattle.topo_links.specs.Table.{segment_part, first}
use Rattle.topo_links.specs.Check.{interface_at}
use Rattle.place_checks.specs.Nearest.{place_of}

-- a subnet with a place that has an address in it
pub record Home : Type 0 where
  pub subnet : Subnet
  pub place : End

abbrev pub home_of : Loaded → Interface → Subnet → Home
home_of l i s = record { subnet = s; place = place_of l i }

-- the subnets of an interface that isn't shut
abbrev pub interface_homes : Loaded → Interface → List Home
interface_homes l i = map (home_of l i) (live_subnets i)

abbrev pub device_homes : Loaded → List Home
device_homes l = flat_map (interface_homes l) l.config.interfaces

-- all of a network
abbrev pub homes : List Loaded → List Home
homes folder = flat_map device_homes folder

-- the subnet has this length, and these first bits
abbrev pub has_bits : ℕ → ℕ → Home → Bool
has_bits number length h = number == prefix_number h.subnet.length h.subnet.address && length == h.subnet.length

abbrev pub home_place : Home → End
home_place h = h.place

-- the first place in the subnet
abbrev pub first_home : List Loaded → Subnet → Option End
first_home folder s = option_map home_place (find (has_bits (prefix_number s.length s.address) s.length) (homes folder))

-- ---- segments

-- an end of a segment with the number of its line
abbrev pub numbered : ℕ → End → End × ℕ
numbered n e = (e, n)

abbrev pub line_ends : LinkLine → List (End × ℕ)
line_ends l = map (numbered l.line) (segment_part l.kind l.ends)

abbrev pub all_ends : List LinkLine → List (End × ℕ)
all_ends ls = flat_map line_ends ls

abbrev pub is_end : End → End × ℕ → Bool
is_end e p = is_same_end e p.0

abbrev pub line_number : End × ℕ → ℕ
line_number p = p.1

-- the line of the segment that the place is an end of
abbrev pub segment_line : List LinkLine → End → Option ℕ
segment_line ls e = option_map line_number (find (is_end e) (all_ends ls))

abbrev pub is_one : Option ℕ → Option ℕ → Bool
is_one None o = false
is_one (Some a) None = false
is_one (Some a) (Some b) = a == b

-- one segment has both places
abbrev pub joins : List LinkLine → End → End → Bool
joins ls e f = is_one (segment_line ls e) (segment_line ls f)

-- ---- the other place in a subnet

-- a place of another device, which no segment joins with this one
abbrev pub is_strange : List LinkLine → End → End → Bool
is_strange ls e f = not (bytes_eq e.0 f.0) && not (joins ls e f)

abbrev pub if_strange : List LinkLine → End → Option End → Option End
if_strange ls e None = None
if_strange ls e (Some f) = if is_strange ls e f then Some f else None

-- an address of 32 bits is a subnet of its own
abbrev pub subnet_other : List LinkLine → List Loaded → End → Subnet → Option End
subnet_other ls folder e s = if nat_lt s.length 32 then if_strange ls e (first_home folder s) else None

-- by the subnets of an interface in their order
abbrev pub interface_other : List LinkLine → List Loaded → End → Interface → Option End
interface_other ls folder e i = first (filter_map (subnet_other ls folder e) (live_subnets i))

-- the first place of a subnet of this place, where it is of another device and not joined with it
abbrev pub other_in : List LinkLine → List Loaded → End → Option End
other_in ls folder e = option_and_then (interface_other ls folder e) (interface_at folder e)
