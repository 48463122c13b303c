-- Routes: which static and connected routes of a router are valid and installed, and which choices they give a
-- packet. The rules are those of IOS static routing (the command `ip route`). That the valid routes are the least set,
-- and that all equal routes are used without a cap, is this product's choice.
use Rattle.std.specs.Prelude.{◌≡◌, ◌⊎◌, ◌≤◌, ℕ, zero, suc, ◌-◌, ◌/◌, ◌%◌, ◌^◌, Bool, true, false, IsTrue, not, ◌&&◌, ◌||◌, List, [], ◌∷◌, ◌++◌, Option, Some, None, length, map, filter, flat_map, find, Contains, nat_lt, nat_eq, ◌==◌, is_some, if◌then◌else◌}
use Rattle.std.specs.List.{list_any}
use Rattle.std.specs.Option.{option_to_list}
use Rattle.std.specs.Cmp.Lexicographic.{pointwise}
use Rattle.net_types.specs.declared.config.Config.{Config}
use Rattle.net_types.specs.declared.config.Interface.{Interface}
use Rattle.net_types.specs.declared.config.Subnet.{Subnet}
use Rattle.net_types.specs.declared.config.Route.{Route}
use Rattle.net_types.specs.declared.config.RouteExit.{RouteExit}
use Rattle.net_types.specs.declared.config.RouteExit.TheVariants as exit
use Rattle.net_types.specs.declared.network.Rib.{Rib}
use Rattle.net_types.specs.declared.network.Hop.{Hop}
use Rattle.net_types.specs.declared.network.Hop.TheVariants.{Discard, Out}

-- names are compared byte for byte
abbrev pub same_text : List ℕ → List ℕ → Bool
same_text = pointwise nat_eq

-- ---- addresses and subnets

-- the first bits of an address, as many as the length says, as a number (RFC 4632)
abbrev pub prefix_number : ℕ → ℕ → ℕ
prefix_number length address = address / 2 ^ (32 - length)

-- a subnet holds the addresses that have its first bits
abbrev pub holds : Subnet → ℕ → Bool
holds s address = prefix_number s.length address == prefix_number s.length s.address

-- two prefixes are one where address and length are equal
abbrev pub same_prefix : Subnet → Subnet → Bool
same_prefix s t = s.address == t.address && s.length == t.length

-- the subnet of an address: its least address, with the same length
abbrev pub network_of : Subnet → Subnet
network_of s = record s { address = s.address - s.address % 2 ^ (32 - s.length) }

-- ---- interfaces

-- all addresses of an interface: the primary one, then the secondary ones (IOS: ip address)
abbrev pub subnets : Interface → List Subnet
subnets i = option_to_list i.primary ++ i.secondary

-- an interface that is shut down has none that counts (IOS: shutdown)
abbrev pub live_subnets : Interface → List Subnet
live_subnets i = if i.shut then [] else subnets i

-- an interface is IP-enabled where it isn't shut down and has an address
abbrev pub is_enabled : Interface → Bool
is_enabled i = not i.shut && (is_some i.primary || nat_lt 0 (length i.secondary))

-- one of the subnets has this very address
abbrev pub has_address : ℕ → List Subnet → Bool
has_address a subnets = list_any (λ s. s.address == a) subnets

-- it is an address of an IP-enabled interface of the device
abbrev pub is_own : Config → ℕ → Bool
is_own c a = list_any (λ i. has_address a (live_subnets i)) c.interfaces

-- of two interfaces of one name the first counts
abbrev pub interface_named : Config → List ℕ → Option Interface
interface_named c name = find (λ i. same_text i.name name) c.interfaces

abbrev pub is_enabled_if_any : Option Interface → Bool
is_enabled_if_any None = false
is_enabled_if_any (Some i) = is_enabled i

-- ---- the routes of a device

-- each address of an IP-enabled interface gives a connected route of its subnet, with distance 0 (IOS: ip address)
abbrev pub connected_by : Interface → Subnet → Route
connected_by i s = record { prefix = network_of s; exit = exit.Port i.name; distance = 0 }

abbrev pub connected : Interface → List Route
connected i = map (connected_by i) (live_subnets i)

-- the written routes, then the connected ones
abbrev pub all_routes : Config → List Route
all_routes c = c.routes ++ flat_map connected c.interfaces

-- the next hop of the route, if it has one, is the device itself
abbrev pub next_is_own : Config → RouteExit → Bool
next_is_own c exit.Null = false
next_is_own c (exit.Port name) = false
next_is_own c (exit.Both name next) = is_own c next
next_is_own c (exit.Next next) = is_own c next

-- a route of distance 255, or by a next hop that is the device's own address, is never valid (IOS: ip route)
abbrev pub is_usable : Config → Route → Bool
is_usable c r = not (r.distance == 255) && not (next_is_own c r.exit)

-- a route to Null0, or out of an IP-enabled interface, needs no other route (IOS: ip route)
abbrev pub is_anchored : Config → RouteExit → Bool
is_anchored c exit.Null = true
is_anchored c (exit.Port name) = is_enabled_if_any (interface_named c name)
is_anchored c (exit.Both name next) = is_enabled_if_any (interface_named c name)
is_anchored c (exit.Next next) = false

abbrev pub route_holds : ℕ → Route → Bool
route_holds a r = holds r.prefix a

-- a route with only a next hop needs one whose prefix holds the next hop (IOS: ip route, recursive routes)
abbrev pub leads_into : List Route → RouteExit → Bool
leads_into rs exit.Null = false
leads_into rs (exit.Port name) = false
leads_into rs (exit.Both name next) = false
leads_into rs (exit.Next next) = list_any (route_holds next) rs

-- ---- valid routes

-- a route is valid by one of two rules, and by no other: it is usable and needs no other route, or it is usable and
-- its next hop lies in the prefix of a route that is valid
pub data IsValid (c : Config) : Route → Type 0 where
  anchored : (r : Route) → Contains (all_routes c) r → IsTrue (is_usable c r) → IsTrue (is_anchored c r.exit) → IsValid c r
  recursive : (r : Route) (next : ℕ) (by : Route) → Contains (all_routes c) r → IsTrue (is_usable c r) → r.exit ≡ exit.Next next → IsValid c by → IsTrue (route_holds next by) → IsValid c r

-- computed: the route is usable, and needs no other route or leads into one of these
abbrev pub stands_on : Config → List Route → Route → Bool
stands_on c rs r = is_usable c r && (is_anchored c r.exit || leads_into rs r.exit)

-- computed: the routes that are valid by at most n routes in a row
abbrev pub valid_within : Config → ℕ → List Route
valid_within c zero = filter (stands_on c []) (all_routes c)
valid_within c (suc n) = filter (stands_on c (valid_within c n)) (all_routes c)

-- computed: the valid routes, since no row is longer than there are routes. The law is `valid_is_least`
abbrev pub valid : Config → List Route
valid c = valid_within c (length (all_routes c))

-- ---- installed routes

-- a valid route is installed where no valid route of the same prefix has a smaller distance (IOS: ip route, distance)
pub record IsInstalled (c : Config) (r : Route) : Type 0 where
  pub valid : IsValid c r
  pub least : (q : Route) → IsValid c q → IsTrue (same_prefix q.prefix r.prefix) → r.distance ≤ q.distance

-- q has the same prefix and a smaller distance
abbrev pub beats : Route → Route → Bool
beats r q = same_prefix q.prefix r.prefix && nat_lt q.distance r.distance

abbrev pub is_unbeaten : List Route → Route → Bool
is_unbeaten rs r = not (list_any (beats r) rs)

-- computed: the valid routes that none of them beats, as they stand in the configuration. The law is `installed_is_best`
abbrev pub installed : Config → List Route
installed c = filter (is_unbeaten (valid c)) (valid c)

-- the installed routes, with the number of all routes
abbrev pub rib_of : Config → Rib
rib_of c = record { routes = installed c; count = length (all_routes c) }

-- ---- lookups

-- a route of the longest prefix that holds the address (RFC 1812, 5.2.4.3)
pub record IsBest (rs : List Route) (a : ℕ) (r : Route) : Type 0 where
  pub among : Contains rs r
  pub holds : IsTrue (route_holds a r)
  pub longest : (q : Route) → Contains rs q → IsTrue (route_holds a q) → q.prefix.length ≤ r.prefix.length

-- what one route gives: a drop, an interface with the address itself or with the next hop, or what the next hop's
-- own lookup gives
abbrev pub LeadsTo : (ℕ → Hop → Type 0) → ℕ → RouteExit → Hop → Type 0
LeadsTo again a exit.Null hop = hop ≡ Discard
LeadsTo again a (exit.Port name) hop = hop ≡ Out name a
LeadsTo again a (exit.Both name next) hop = hop ≡ Out name next
LeadsTo again a (exit.Next next) hop = again next hop

-- a choice for the address: the union over the routes of the longest prefix, which are equal choices; a drop where no
-- route holds the address, and where more than n lookups in a row are needed (IOS: ip route, load sharing)
abbrev pub IsChoice : List Route → ℕ → ℕ → Hop → Type 0
IsChoice rs zero a hop = hop ≡ Discard
IsChoice rs (suc n) a hop =
    (((r : Route) → Contains rs r → IsTrue (route_holds a r) → ⊥) × (hop ≡ Discard))
    ⊎ ((r : Route) × IsBest rs a r × LeadsTo (λ b g. IsChoice rs n b g) a r.exit hop)

abbrev pub is_longer : Route → Route → Bool
is_longer r q = nat_lt r.prefix.length q.prefix.length

abbrev pub is_longest : List Route → Route → Bool
is_longest rs r = not (list_any (is_longer r) rs)

-- computed: the routes of the longest prefix that holds the address
abbrev pub best : List Route → ℕ → List Route
best rs a = filter (is_longest (filter (route_holds a) rs)) (filter (route_holds a) rs)

abbrev pub exit_hops : (ℕ → List Hop) → ℕ → RouteExit → List Hop
exit_hops again a exit.Null = Discard ∷ []
exit_hops again a (exit.Port name) = Out name a ∷ []
exit_hops again a (exit.Both name next) = Out name next ∷ []
exit_hops again a (exit.Next next) = again next

-- no choice at all is a drop
abbrev pub or_discard : List Hop → List Hop
or_discard [] = Discard ∷ []
or_discard (hop ∷ hops) = hop ∷ hops

abbrev pub route_hops : (ℕ → List Hop) → ℕ → Route → List Hop
route_hops again a r = exit_hops again a r.exit

-- computed: the choices for the address, in at most n lookups in a row
abbrev pub hops_within : List Route → ℕ → ℕ → List Hop
hops_within rs zero a = Discard ∷ []
hops_within rs (suc n) a = or_discard (flat_map (route_hops (λ b. hops_within rs n b) a) (best rs a))

-- computed: the choices for the address, in at most as many lookups in a row as the device has routes. The law is
-- `hops_are_choices`
abbrev pub hops : Rib → ℕ → List Hop
hops rib a = hops_within rib.routes rib.count a
