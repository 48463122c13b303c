-- Worked examples of the rules, each computed from the definitions.
use Rattle.std.specs.Prelude.{◌≡◌, ℕ, ◌+◌, ◌-◌, ◌*◌, ◌^◌, Bool, true, false, List, [], ◌∷◌, length, Option, Some, None, codes, refl}
use Rattle.std.proofs.Common.{lit≤}
use Rattle.hdr_bits.specs.declared.header.Header.{Header}
use Rattle.net_types.specs.declared.config.AccessList.{AccessList}
use Rattle.net_types.specs.declared.config.Config.{Config}
use Rattle.net_types.specs.declared.config.Entry.{Entry}
use Rattle.net_types.specs.declared.config.Interface.{Interface}
use Rattle.net_types.specs.declared.config.Masked.{Masked}
use Rattle.net_types.specs.declared.config.NatRule.{NatRule}
use Rattle.net_types.specs.declared.config.NatKind.TheVariants.{Plain, Tcp, Outer}
use Rattle.net_types.specs.declared.config.PortTest.TheVariants as port
use Rattle.net_types.specs.declared.config.IcmpTest.TheVariants as icmp
use Rattle.net_types.specs.declared.config.FlagTest.TheVariants as flag
use Rattle.net_types.specs.declared.config.Route.{Route}
use Rattle.net_types.specs.declared.config.RouteExit.TheVariants as exit
use Rattle.net_types.specs.declared.config.Side.{Side}
use Rattle.net_types.specs.declared.config.Side.TheVariants.{Neither, Inside, Outside}
use Rattle.net_types.specs.declared.config.Subnet.{Subnet}
use Rattle.net_types.specs.declared.label.Outcome.{Outcome}
use Rattle.net_types.specs.declared.label.Outcome.TheVariants as end
use Rattle.net_types.specs.declared.network.Hop.TheVariants.{Discard, Out}
use Rattle.net_types.specs.declared.network.Place.{Place}
use Rattle.net_types.specs.declared.network.State.{State}
use Rattle.net_types.specs.declared.network.Verdict.TheVariants.{Permit, Deny, DenyEnd}
use Rattle.net_types.specs.AccessLists.{verdict}
use Rattle.net_types.specs.Routes.{installed, rib_of, hops}
use Rattle.net_types.specs.Translation.{from_outside, from_inside}
use Rattle.net_types.specs.World.{World}
use Rattle.net_types.specs.Walks.{states_after, label}

-- a dotted address
abbrev address : ℕ → ℕ → ℕ → ℕ → ℕ
address a b c d = a * 2 ^ 24 + b * 2 ^ 16 + c * 2 ^ 8 + d

abbrev ethernet0 : List ℕ
ethernet0 = codes "Ethernet0"

abbrev ethernet1 : List ℕ
ethernet1 = codes "Ethernet1"

abbrev ethernet2 : List ℕ
ethernet2 = codes "Ethernet2"

-- subnets of the lengths that the examples use
abbrev slash : ℕ → Subnet
slash a = record { address = a; length = 30; in_range = lit≤ tt }

abbrev slash24 : ℕ → Subnet
slash24 a = record { address = a; length = 24; in_range = lit≤ tt }

abbrev slash16 : ℕ → Subnet
slash16 a = record { address = a; length = 16; in_range = lit≤ tt }

abbrev host_prefix : ℕ → Subnet
host_prefix a = record { address = a; length = 32; in_range = lit≤ tt }

abbrev everything : Subnet
everything = record { address = 0; length = 0; in_range = lit≤ tt }

abbrev interface : List ℕ → Subnet → Side → Interface
interface name s side = record { name = name; primary = Some s; secondary = []; shut = false; input = None; output = None; side = side }

abbrev to : ℕ → Header
to dst = record { dst = dst; src = 0; proto = 0; dport = 0; sport = 0; flags = 0 }

abbrev place : ℕ → ℕ → Place
place d k = record { device = d; interface = k }

-- ---- access lists: the first entry that matches decides, so the order of entries counts

abbrev any_address : Masked
any_address = record { value = 0; wild = 2 ^ 32 - 1 }

abbrev host : ℕ → Masked
host a = record { value = a; wild = 0 }

-- permit tcp any host 10.0.1.5 eq www
abbrev www : ℕ → Entry
www n = record { sequence = n; permit = true; proto = Some 6; src = any_address; sport = port.Any; dst = host (address 10 0 1 5); dport = port.Eq (80 ∷ []); icmp = icmp.Any; flags = flag.Any }

-- deny tcp any any
abbrev no_tcp : ℕ → Entry
no_tcp n = record { sequence = n; permit = false; proto = Some 6; src = any_address; sport = port.Any; dst = any_address; dport = port.Any; icmp = icmp.Any; flags = flag.Any }

abbrev list_of : List Entry → Option AccessList
list_of entries = Some (record { name = codes "101"; extended = true; entries = entries })

abbrev tcp : ℕ → Header
tcp dport = record { dst = address 10 0 1 5; src = 0; proto = 6; dport = dport; sport = 0; flags = 0 }

permit_first : verdict (list_of (www 10 ∷ no_tcp 20 ∷ [])) (tcp 80) ≡ Permit 10
permit_first = refl

deny_first : verdict (list_of (no_tcp 10 ∷ www 20 ∷ [])) (tcp 80) ≡ Deny 10
deny_first = refl

end_of_the_list_denies : verdict (list_of (www 10 ∷ [])) (tcp 81) ≡ DenyEnd
end_of_the_list_denies = refl

-- ---- recursive routes, each on a device with Ethernet0 10.0.0.1/30

abbrev by_next : Subnet → ℕ → ℕ → Route
by_next prefix next distance = record { prefix = prefix; exit = exit.Next next; distance = distance }

abbrev with_routes : List Route → Config
with_routes routes = record { hostname = codes "R1"; interfaces = interface ethernet0 (slash (address 10 0 0 1)) Neither ∷ []; routes = routes; lists = []; nat = [] }

abbrev by_ethernet0 : Route
by_ethernet0 = record { prefix = slash (address 10 0 0 0); exit = exit.Port ethernet0; distance = 0 }

-- two routes by each other are not valid
abbrev by_each_other : Config
by_each_other = with_routes (by_next (slash16 (address 172 16 0 0)) (address 172 17 0 1) 1 ∷ by_next (slash16 (address 172 17 0 0)) (address 172 16 0 1) 1 ∷ [])

no_route_by_each_other : rib_of by_each_other ≡ record { routes = by_ethernet0 ∷ []; count = 3 }
no_route_by_each_other = refl

-- a route by a route
next_hop_is_looked_up : hops (rib_of (with_routes (by_next (slash24 (address 192 168 0 0)) (address 172 16 0 1) 1 ∷ by_next (slash24 (address 172 16 0 0)) (address 10 0 0 2) 1 ∷ []))) (address 192 168 0 7) ≡ Out ethernet0 (address 10 0 0 2) ∷ []
next_hop_is_looked_up = refl

-- a route whose next hop lies in its own prefix is installed where another route holds the next hop, and drops
abbrev by_itself : Config
by_itself = with_routes (by_next (slash16 (address 172 16 0 0)) (address 10 0 0 2) 1 ∷ by_next (slash24 (address 172 16 5 0)) (address 172 16 5 1) 1 ∷ [])

by_itself_is_installed : length (installed by_itself) ≡ 3
by_itself_is_installed = refl

by_itself_drops : hops (rib_of by_itself) (address 172 16 5 9) ≡ Discard ∷ []
by_itself_drops = refl

-- a next hop of the device's own
own_next_hop_drops : hops (rib_of (with_routes (by_next (slash24 (address 192 168 0 0)) (address 10 0 0 1) 1 ∷ []))) (address 192 168 0 7) ≡ Discard ∷ []
own_next_hop_drops = refl

distance_255_is_never_valid : rib_of (with_routes (by_next (slash24 (address 192 168 0 0)) (address 10 0 0 2) 255 ∷ [])) ≡ record { routes = by_ethernet0 ∷ []; count = 2 }
distance_255_is_never_valid = refl

-- ---- a floating route: Ethernet0 10.0.0.1/24, Ethernet1 10.0.1.1/30, Ethernet2 10.0.2.1/30, and 192.168.0.0/24 by 10.0.1.2 and
-- by 10.0.2.2

-- the second route's distance, whether Ethernet1 is shut down, and the output list of Ethernet2
abbrev floating : ℕ → Bool → Option (List ℕ) → Config
floating distance shut output = record {
  hostname = codes "R1";
  interfaces = interface ethernet0 (slash24 (address 10 0 0 1)) Neither
      ∷ record (interface ethernet1 (slash (address 10 0 1 1)) Neither) { shut = shut }
      ∷ record (interface ethernet2 (slash (address 10 0 2 1)) Neither) { output = output }
      ∷ [];
  routes = by_next (slash24 (address 192 168 0 0)) (address 10 0 1 2) 1 ∷ by_next (slash24 (address 192 168 0 0)) (address 10 0 2 2) distance ∷ [];
  lists = record { name = codes "102"; extended = true; entries = to_192_168 ∷ everything_else ∷ [] } ∷ [];
  nat = [];
}
  where
    -- deny ip any 192.168.0.0 0.0.0.255, permit ip any any
    to_192_168 : Entry
    to_192_168 = record { sequence = 10; permit = false; proto = None; src = any_address; sport = port.Any; dst = record { value = address 192 168 0 0; wild = 255 }; dport = port.Any; icmp = icmp.Any; flags = flag.Any }

    everything_else : Entry
    everything_else = record { sequence = 20; permit = true; proto = None; src = any_address; sport = port.Any; dst = any_address; dport = port.Any; icmp = icmp.Any; flags = flag.Any }

abbrev two : List ℕ
two = 0 ∷ 1 ∷ []

abbrev three : List ℕ
three = 0 ∷ 1 ∷ 2 ∷ []

-- a network of one device without links, with interfaces of these numbers
abbrev alone : (c : Config) (numbers : List ℕ) → length numbers ≡ length c.interfaces → World
alone c numbers same = record {
  network = record { devices = record { name = 3; config = c; numbers = numbers; numbered = same } ∷ [] };
  links = record { segments = []; ingress = place 3 0 ∷ [] };
}

abbrev exits : ℕ → Outcome
exits k = end.Exit (place 3 k) None None None None

the_better_route_alone : label (alone (floating 200 false None) three refl) 255 (place 3 0) (to (address 192 168 0 7)) ≡ exits 1 ∷ []
unfolding label
the_better_route_alone = refl

the_floating_route_takes_over : label (alone (floating 200 true None) three refl) 255 (place 3 0) (to (address 192 168 0 7)) ≡ exits 2 ∷ []
unfolding label
the_floating_route_takes_over = refl

equal_routes_are_both_taken : label (alone (floating 1 false None) three refl) 255 (place 3 0) (to (address 192 168 0 7)) ≡ exits 1 ∷ exits 2 ∷ []
unfolding label
equal_routes_are_both_taken = refl

output_list_on_one_choice : label (alone (floating 1 false (Some (codes "102"))) three refl) 255 (place 3 0) (to (address 192 168 0 7)) ≡ end.Dropped ∷ exits 1 ∷ []
unfolding label
output_list_on_one_choice = refl

-- ---- static translation: plain 10.0.0.5 and 203.0.113.5, tcp 10.0.0.6 port 80 and 203.0.113.5 port 8080

abbrev rules : List NatRule
rules =
    record { kind = Plain; local = address 10 0 0 5; local_port = 0; global = address 203 0 113 5; global_port = 0 }
    ∷ record { kind = Tcp; local = address 10 0 0 6; local_port = 80; global = address 203 0 113 5; global_port = 8080 }
    ∷ []

abbrev to_global : ℕ → Header
to_global dport = record { dst = address 203 0 113 5; src = 0; proto = 6; dport = dport; sport = 0; flags = 0 }

port_rule_first : from_outside rules (to_global 8080) ≡ record (to_global 80) { dst = address 10 0 0 6 }
port_rule_first = refl

else_plain_rule : from_outside rules (to_global 81) ≡ record (to_global 81) { dst = address 10 0 0 5 }
else_plain_rule = refl

abbrev udp_from_inside : Header
udp_from_inside = record { dst = 0; src = address 10 0 0 6; proto = 17; dport = 0; sport = 80; flags = 0 }

other_protocol_stays : from_inside rules udp_from_inside ≡ udp_from_inside
other_protocol_stays = refl

-- ---- two routers: R1 (number 3) with Ethernet0 10.0.0.1/24 and Ethernet1 10.0.12.1/30, R2 (number 4) with Ethernet0
-- 10.0.12.2/30, linked by Ethernet1 of R1 and Ethernet0 of R2; packets enter at Ethernet0 of R1

abbrev linked : (c d : Config) → 2 ≡ length c.interfaces → 2 ≡ length d.interfaces → World
linked c d m n = record {
  network = record { devices = record { name = 3; config = c; numbers = two; numbered = m } ∷ record { name = 4; config = d; numbers = two; numbered = n } ∷ [] };
  links = record { segments = record { lan = false; ends = place 3 1 ∷ place 4 0 ∷ [] } ∷ []; ingress = place 3 0 ∷ [] };
}

-- R1 translates 10.0.0.5 to 203.0.113.5, and R2, if `back`, 203.0.113.5 to 10.0.0.5
abbrev static_rule : ℕ → ℕ → NatRule
static_rule local global = record { kind = Plain; local = local; local_port = 0; global = global; global_port = 0 }

abbrev there : Config
there = record {
  hostname = codes "R1";
  interfaces = interface ethernet0 (slash24 (address 10 0 0 1)) Inside ∷ interface ethernet1 (slash (address 10 0 12 1)) Outside ∷ [];
  routes = by_next (slash (address 10 9 0 0)) (address 10 0 12 2) 1 ∷ [];
  lists = [];
  nat = static_rule (address 10 0 0 5) (address 203 0 113 5) ∷ [];
}

abbrev and_back : List NatRule → Config
and_back nat = record {
  hostname = codes "R2";
  interfaces = interface ethernet0 (slash (address 10 0 12 2)) Inside ∷ interface ethernet1 (slash (address 10 9 0 1)) Outside ∷ [];
  routes = [];
  lists = [];
  nat = nat;
}

abbrev from_10_0_0_5 : Header
from_10_0_0_5 = record { dst = address 10 9 0 2; src = address 10 0 0 5; proto = 6; dport = 80; sport = 40000; flags = 2 }

there_and_back_is_the_same : label (linked there (and_back (static_rule (address 203 0 113 5) (address 10 0 0 5) ∷ [])) refl refl) 8 (place 3 0) from_10_0_0_5 ≡ end.Exit (place 4 1) None None None None ∷ []
unfolding label
there_and_back_is_the_same = refl

there_alone_changes_the_source : label (linked there (and_back []) refl refl) 8 (place 3 0) from_10_0_0_5 ≡ end.Exit (place 4 1) (Some (address 203 0 113 5)) None None None ∷ []
unfolding label
there_alone_changes_the_source = refl

-- ---- hosts outside: the host 198.51.100.7 is 10.8.0.7 inside

abbrev outer_rule : ℕ → ℕ → NatRule
outer_rule global local = record { kind = Outer; local = local; local_port = 0; global = global; global_port = 0 }

abbrev both_kinds : List NatRule
both_kinds = static_rule (address 10 0 0 5) (address 203 0 113 5) ∷ outer_rule (address 198 51 100 7) (address 10 8 0 7) ∷ []

abbrev outside_host : ℕ → ℕ → Header
outside_host src dst = record { dst = dst; src = src; proto = 6; dport = 80; sport = 40000; flags = 2 }

both_from_outside : from_outside both_kinds (outside_host (address 198 51 100 7) (address 203 0 113 5)) ≡ outside_host (address 10 8 0 7) (address 10 0 0 5)
both_from_outside = refl

both_from_inside : from_inside both_kinds (outside_host (address 10 0 0 5) (address 10 8 0 7)) ≡ outside_host (address 203 0 113 5) (address 198 51 100 7)
both_from_inside = refl

-- three fields at once
port_and_outer : from_outside (record (static_rule (address 10 0 0 6) (address 203 0 113 5)) { kind = Tcp; local_port = 8080; global_port = 80 } ∷ outer_rule (address 198 51 100 7) (address 10 8 0 7) ∷ []) (outside_host (address 198 51 100 7) (address 203 0 113 5)) ≡ record { dst = address 10 0 0 6; src = address 10 8 0 7; proto = 6; dport = 8080; sport = 40000; flags = 2 }
port_and_outer = refl

outer_rule_from_its_own_side_alone : from_outside both_kinds (outside_host (address 10 8 0 7) (address 198 51 100 7)) ≡ outside_host (address 10 8 0 7) (address 198 51 100 7)
outer_rule_from_its_own_side_alone = refl

-- R1 has Ethernet0 10.0.0.1/24 inside, Ethernet1 10.0.12.1/30 outside and 10.8.0.7 by 10.0.12.2: the lookup is for 10.8.0.7, and
-- the packet leaves to 198.51.100.7
abbrev to_outside_host : List NatRule → Config
to_outside_host nat = record {
  hostname = codes "R1";
  interfaces = interface ethernet0 (slash24 (address 10 0 0 1)) Inside ∷ interface ethernet1 (slash (address 10 0 12 1)) Outside ∷ [];
  routes = by_next (host_prefix (address 10 8 0 7)) (address 10 0 12 2) 1 ∷ [];
  lists = [];
  nat = nat;
}

destination_after_the_lookup : label (alone (to_outside_host (outer_rule (address 198 51 100 7) (address 10 8 0 7) ∷ [])) two refl) 255 (place 3 0) (to (address 10 8 0 7)) ≡ end.Exit (place 3 1) None (Some (address 198 51 100 7)) None None ∷ []
unfolding label
destination_after_the_lookup = refl

-- the global address has no route, and isn't looked for
destination_as_it_comes : label (alone (to_outside_host (outer_rule (address 198 51 100 7) (address 10 8 0 7) ∷ [])) two refl) 255 (place 3 0) (to (address 198 51 100 7)) ≡ end.Dropped ∷ []
unfolding label
destination_as_it_comes = refl

-- ---- two default routes at each other

abbrev default_by : List Interface → ℕ → Config
default_by interfaces next = record { hostname = codes "R"; interfaces = interfaces; routes = by_next everything next 1 ∷ []; lists = []; nat = [] }

abbrev at_each_other : World
at_each_other = linked
    (default_by (interface ethernet0 (slash24 (address 10 0 0 1)) Neither ∷ interface ethernet1 (slash (address 10 0 12 1)) Neither ∷ []) (address 10 0 12 2))
    (default_by (interface ethernet0 (slash (address 10 0 12 2)) Neither ∷ interface ethernet1 (slash (address 10 9 0 1)) Neither ∷ []) (address 10 0 12 1))
    refl
    refl

abbrev in_state : Place → State
in_state p = record { place = p; header = to 0 }

-- with TTL 3 a walk makes at most two moves, to two other places; the third leads back to the second place
two_moves : states_after at_each_other 2 (in_state (place 3 0)) ≡ in_state (place 3 1) ∷ []
two_moves = refl

third_move_is_back : states_after at_each_other 3 (in_state (place 3 0)) ≡ states_after at_each_other 1 (in_state (place 3 0))
third_move_is_back = refl

expires_with_3 : label at_each_other 3 (place 3 0) (to 0) ≡ end.Expired ∷ []
unfolding label
expires_with_3 = refl

expires_with_4 : label at_each_other 4 (place 3 0) (to 0) ≡ end.Expired ∷ []
unfolding label
expires_with_4 = refl

-- the header of the other router's own address is local there
local_at_the_other : label at_each_other 255 (place 3 0) (to (address 10 0 12 2)) ≡ end.Local (place 4 0) ∷ []
unfolding label
local_at_the_other = refl

-- ---- an ingress that is shut down: Ethernet0 10.0.0.1/30 and Ethernet1 10.0.1.1/30

abbrev two_links : Bool → Config
two_links shut = record {
  hostname = codes "R1";
  interfaces = record (interface ethernet0 (slash (address 10 0 0 1)) Neither) { shut = shut } ∷ interface ethernet1 (slash (address 10 0 1 1)) Neither ∷ [];
  routes = [];
  lists = [];
  nat = [];
}

abbrev seen : ℕ → Bool → ℕ → List Outcome
seen ttl shut dst = label (alone (two_links shut) two refl) ttl (place 3 0) (to dst)

leaves_by_ethernet1 : seen 255 false (address 10 0 1 0) ≡ exits 1 ∷ []
unfolding label
leaves_by_ethernet1 = refl

leaves_by_the_ingress : seen 255 false (address 10 0 0 2) ≡ exits 0 ∷ []
unfolding label
leaves_by_the_ingress = refl

local_at_the_ingress : seen 255 false (address 10 0 0 1) ≡ end.Local (place 3 0) ∷ []
unfolding label
local_at_the_ingress = refl

expires_in_place_of_an_exit : seen 1 false (address 10 0 1 0) ≡ end.Expired ∷ []
unfolding label
expires_in_place_of_an_exit = refl

still_local : seen 1 false (address 10 0 1 1) ≡ end.Local (place 3 1) ∷ []
unfolding label
still_local = refl

directed_broadcast_drops : seen 255 false (address 10 0 1 3) ≡ end.Dropped ∷ []
unfolding label
directed_broadcast_drops = refl

shut_ingress_drops : seen 255 true (address 10 0 1 0) ≡ end.Dropped ∷ []
unfolding label
shut_ingress_drops = refl
