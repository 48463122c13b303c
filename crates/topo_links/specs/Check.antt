-- The check of a link table against two networks.
use Rattle.std.specs.Prelude.{ℕ, ◌/◌, ◌%◌, min, Bool, not, ◌&&◌, List, [], ◌∷◌, ◌++◌, map, filter, filter_map, find, length, Option, Some, None, is_some, option_and_then, nat_le, nat_eq}
use Rattle.std.specs.List.{list_any, concat}
use Rattle.std.specs.Fmt.{decimal}
use Rattle.net_types.specs.declared.config.Interface.{Interface}
use Rattle.net_types.specs.declared.config.Loaded.{Loaded}
use Rattle.net_types.specs.Routes.{live_subnets}
use Rattle.topo_links.specs.declared.table.LinkLine.{LinkLine}
use Rattle.topo_links.specs.declared.table.LinkRefusal.TheVariants as refusal
use Rattle.topo_links.specs.declared.table.LinkFail.{LinkFail}
use Rattle.topo_links.specs.Ends.{Word, End, refused}
use Rattle.topo_links.specs.Table.{segment_part, first}
use Rattle.topo_links.specs.ByName.{is_named}

-- the hostname of a device
abbrev pub host_of : Loaded → Word
host_of l = l.config.hostname

-- the name of an interface
abbrev pub interface_name : Interface → Word
interface_name i = i.name

-- the network's first device of this hostname
abbrev pub device_named : List Loaded → Word → Option Loaded
device_named folder n = find (is_named host_of n) folder

-- what stands at an end: the interface of its device that has the name; a network may have none
abbrev pub interface_at : List Loaded → End → Option Interface
interface_at folder e = option_and_then (λ l. find (is_named interface_name e.1) l.config.interfaces) (device_named folder e.0)

-- the addresses of an interface that is IP-enabled
abbrev pub live_addresses : Interface → List ℕ
live_addresses i = map (λ s. s.address) (live_subnets i)

-- the same of an interface that may not be there
abbrev pub addresses_of : Option Interface → List ℕ
addresses_of None = []
addresses_of (Some i) = live_addresses i

-- those of what stands at an end
abbrev pub end_addresses : List Loaded → End → List ℕ
end_addresses folder e = addresses_of (interface_at folder e)

-- the address is one of these
abbrev pub has_value : ℕ → List ℕ → Bool
has_value a addresses = list_any (nat_eq a) addresses

-- two at least of the ends have the address
abbrev pub is_shared : List (List ℕ) → ℕ → Bool
is_shared ends a = nat_le 2 (length (filter (has_value a) ends))

-- the lesser of an address and of one that may be none
abbrev pub lesser : ℕ → Option ℕ → Option ℕ
lesser x None = Some x
lesser x (Some y) = Some (min x y)

-- the least of a list
abbrev pub least : List ℕ → Option ℕ
least [] = None
least (x ∷ xs) = lesser x (least xs)

-- the least address that two ends have
abbrev pub least_shared : List (List ℕ) → Option ℕ
least_shared ends = least (filter (is_shared ends) (concat ends))

-- the least address that stands at two ends of a line's segment in one network
abbrev pub shared_address : List Loaded → LinkLine → Option ℕ
shared_address folder l = least_shared (map (end_addresses folder) (segment_part l.kind l.ends))

-- a device that is in neither network
abbrev pub is_unknown : List Loaded → List Loaded → Word → Bool
is_unknown old new n = not (is_some (device_named old n)) && not (is_some (device_named new n))

-- the first such device of a line
abbrev pub unknown_device : List Loaded → List Loaded → LinkLine → Option Word
unknown_device old new l = find (is_unknown old new) (map (λ e. e.0) l.ends)

-- an address as four numbers with dots between
abbrev pub dotted : ℕ → Word
dotted a = decimal (a / 16777216) ++ 46 ∷ (decimal (a / 65536 % 256) ++ 46 ∷ (decimal (a / 256 % 256) ++ 46 ∷ decimal (a % 256)))

-- what is wrong in a line: its first unknown device, else the least address that stands twice in the old network,
-- else the least one in the new network
abbrev pub twice_at : ℕ → Option ℕ → Option LinkFail
twice_at n None = None
twice_at n (Some a) = Some (refused refusal.AddressTwice n (dotted a))

-- AddressTwice in the old network, else in the new one
abbrev pub twice_fault : ℕ → Option ℕ → Option ℕ → Option LinkFail
twice_fault n (Some a) new = twice_at n (Some a)
twice_fault n None new = twice_at n new

-- UnknownDevice comes before AddressTwice
abbrev pub fault_by : ℕ → Option Word → Option LinkFail → Option LinkFail
fault_by n (Some device) twice = Some (refused refusal.UnknownDevice n device)
fault_by n None twice = twice

-- what is wrong in a line, if anything is
unfoldable pub line_fault : List Loaded → List Loaded → LinkLine → Option LinkFail
line_fault old new l = fault_by l.line (unknown_device old new l) (twice_fault l.line (shared_address old l) (shared_address new l))

-- the first line in which something is wrong decides
abbrev pub table_fault : List Loaded → List Loaded → List LinkLine → Option LinkFail
table_fault old new ls = first (filter_map (line_fault old new) ls)

-- the same where each network has a table of its own: an address that stands twice is judged in the table's own network
unfoldable pub own_line_fault : List Loaded → List Loaded → LinkLine → Option LinkFail
own_line_fault own other l = fault_by l.line (unknown_device own other l) (twice_at l.line (shared_address own l))

abbrev pub own_table_fault : List Loaded → List Loaded → List LinkLine → Option LinkFail
own_table_fault own other ls = first (filter_map (own_line_fault own other) ls)
