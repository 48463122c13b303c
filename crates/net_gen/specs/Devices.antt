-- The devices R1 to Rn of a chain, each with a network of its own.
use Rattle.std.specs.Prelude.{ℕ, ◌+◌, ◌-◌, ◌*◌, ◌^◌, min, Bool, true, false, List, [], ◌∷◌, ◌++◌, Option, Some, None, map, flat_map, nat_lt, codes, decimal, ◌==◌, if◌then◌else◌}
use Rattle.std.specs.List.{range_with_len}
use Rattle.std.proofs.Math.Nat.{min-le_right}
use Rattle.net_types.specs.declared.config.Config.{Config}
use Rattle.net_types.specs.declared.config.Interface.{Interface}
use Rattle.net_types.specs.declared.config.Subnet.{Subnet}
use Rattle.net_types.specs.declared.config.Route.{Route}
use Rattle.net_types.specs.declared.config.AccessList.{AccessList}
use Rattle.net_types.specs.declared.config.Entry.{Entry}
use Rattle.net_types.specs.declared.config.Masked.{Masked}
use Rattle.net_types.specs.declared.config.RouteExit.TheVariants as exit
use Rattle.net_types.specs.declared.config.PortTest.TheVariants as port
use Rattle.net_types.specs.declared.config.IcmpTest.TheVariants as icmp
use Rattle.net_types.specs.declared.config.FlagTest.TheVariants as flags
use Rattle.net_types.specs.declared.config.Side.TheVariants as side
use Rattle.net_gen.specs.Draws.{first_port, second_port}

-- the address 10.a.b.c
abbrev pub address : ℕ → ℕ → ℕ → ℕ
address a b c = 10 * 2 ^ 24 + a * 2 ^ 16 + b * 2 ^ 8 + c

-- up to 32 bits of it are the network's
abbrev pub subnet : ℕ → ℕ → Subnet
subnet a n = record { address = a; length = min n 32; in_range = min-le_right n 32 }

-- an interface that is up, with one address
abbrev pub interface : List ℕ → Subnet → Option (List ℕ) → Interface
interface name s input = record {
  name = name;
  primary = Some s;
  secondary = [];
  shut = false;
  input = input;
  output = None;
  side = side.Neither;
}

-- of n devices, device j has a link to the one before, a link to the one behind, and a network of its own
abbrev pub before : ℕ → List Interface
before j = if nat_lt 1 j then interface (codes "Ethernet0") (subnet (address 2 (j - 1) 2) 30) None ∷ [] else []

abbrev pub behind : ℕ → ℕ → List Interface
behind n j = if nat_lt j n then interface (codes "Ethernet1") (subnet (address 2 j 1) 30) None ∷ [] else []

abbrev pub own : ℕ → Interface
own j = interface (codes "Ethernet2") (subnet (address 1 j 1) 24) (if j == 1 then Some (codes "101") else None)

abbrev pub interfaces : ℕ → ℕ → List Interface
interfaces n j = before j ++ behind n j ++ own j ∷ []

-- 1 to n
abbrev pub numbers : ℕ → List ℕ
numbers n = range_with_len 1 n

-- the route of device j to the network of device i, by the neighbour on its side
abbrev pub route : ℕ → ℕ → Route
route j i = record {
  prefix = subnet (address 1 i 0) 24;
  exit = exit.Next (if nat_lt i j then address 2 (j - 1) 1 else address 2 j 2);
  distance = 1;
}

-- none to its own
abbrev pub routes_to : ℕ → ℕ → List Route
routes_to j i = if i == j then [] else route j i ∷ []

abbrev pub routes : ℕ → ℕ → List Route
routes n j = flat_map (routes_to j) (numbers n)

-- an entry that permits packets of a protocol from any source to these addresses and this port
abbrev pub permit : ℕ → ℕ → Masked → ℕ → Entry
permit sequence proto dst dport = record {
  sequence = sequence;
  permit = true;
  proto = Some proto;
  src = record { value = 0; wild = 2 ^ 32 - 1 };
  sport = port.Any;
  dst = dst;
  dport = port.Eq (dport ∷ []);
  icmp = icmp.Any;
  flags = flags.Any;
}

-- TCP to the network of device j, and UDP to one host there
abbrev pub to_network : ℕ → ℕ → Entry
to_network number j = permit (10 * j) 6 (record { value = address 1 j 0; wild = 255 }) (first_port number j)

abbrev pub to_host : ℕ → ℕ → ℕ → Entry
to_host number n j = permit (10 * (n + j)) 17 (record { value = address 1 j 9; wild = 0 }) (second_port number j)

-- the entries of the old network; the new one has more
abbrev pub entries : Bool → ℕ → ℕ → List Entry
entries new number n = map (to_network number) (numbers n) ++ (if new then map (to_host number n) (numbers n) else [])

-- the list of the first device, where packets come in
abbrev pub lists : Bool → ℕ → ℕ → ℕ → List AccessList
lists new number n j = if j == 1 then record { name = codes "101"; extended = true; entries = entries new number n } ∷ [] else []

abbrev pub name : ℕ → List ℕ
name j = codes "R" ++ decimal j

abbrev pub device : Bool → ℕ → ℕ → ℕ → Config
device new number n j = record {
  hostname = name j;
  interfaces = interfaces n j;
  routes = routes n j;
  lists = lists new number n j;
  nat = [];
}
