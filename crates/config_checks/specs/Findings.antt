-- What is odd in a configuration, as a whole list: first of each interface, then of each access list, then of its entries,
-- then of each written route, then of address translation. The rules of what becomes of a packet are those of access lists,
-- static routes and static translation (IOS); what is odd is this product's choice.
use Rattle.std.specs.Prelude.{ℕ, zero, suc, Bool, false, true, not, ◌&&◌, ◌||◌, ◌==◌, List, [], ◌∷◌, ◌++◌, filter, flat_map, fold, map, length, slice_get, Option, Some, None, is_some, nat_eq, nat_lt, if◌then◌else◌}
use Rattle.std.specs.List.{list_any, starts_with}
use Rattle.std.specs.Str.{bytes_eq}
use Rattle.ios_words.specs.Words.{mask_length_of}
use Rattle.net_types.specs.declared.config.AccessList.{AccessList}
use Rattle.net_types.specs.declared.config.Config.{Config}
use Rattle.net_types.specs.declared.config.Entry.{Entry}
use Rattle.net_types.specs.declared.config.Interface.{Interface}
use Rattle.net_types.specs.declared.config.Masked.{Masked}
use Rattle.net_types.specs.declared.config.NatKind.{NatKind}
use Rattle.net_types.specs.declared.config.NatKind.TheVariants as kind
use Rattle.net_types.specs.declared.config.NatRule.{NatRule}
use Rattle.net_types.specs.declared.config.Route.{Route}
use Rattle.net_types.specs.declared.config.RouteExit.{RouteExit}
use Rattle.net_types.specs.declared.config.RouteExit.TheVariants as exit
use Rattle.net_types.specs.declared.config.Side.{Side}
use Rattle.net_types.specs.declared.config.Side.TheVariants.{Neither, Inside, Outside}
use Rattle.net_types.specs.declared.config.Subnet.{Subnet}
use Rattle.net_types.specs.Moves.{list_named, is_dropped, is_inside, is_outside}
use Rattle.net_types.specs.Routes.{same_text, same_prefix, holds, route_holds, live_subnets, is_enabled, is_own, interface_named, installed}
use Rattle.config_checks.specs.declared.finding.AddressField.{AddressField}
use Rattle.config_checks.specs.declared.finding.AddressField.TheVariants.{Source, Destination}
use Rattle.config_checks.specs.declared.finding.ConfigFinding.{ConfigFinding}
use Rattle.config_checks.specs.declared.finding.ConfigFinding.TheVariants as finding
use Rattle.config_checks.specs.declared.finding.Direction.{Direction}
use Rattle.config_checks.specs.declared.finding.Direction.TheVariants.{Input, Output}

-- the finding, where it is so
abbrev pub told : Bool → ConfigFinding → List ConfigFinding
told so f = if so then f ∷ [] else []

-- ---- the lists that an interface names

-- there is no such list, or it has no entry: every packet passes (IOS: ip access-group)
abbrev pub list_findings : List ℕ → Direction → List ℕ → Option AccessList → List ConfigFinding
list_findings i d n None = finding.NoList i d n ∷ []
list_findings i d n (Some l) = told (length l.entries == 0) (finding.EmptyList i d n)

abbrev pub named_findings : Config → List ℕ → Direction → Option (List ℕ) → List ConfigFinding
named_findings c i d None = []
named_findings c i d (Some n) = list_findings i d n (list_named c (Some n))

-- the name of the list for a direction
abbrev pub named_for : Interface → Direction → Option (List ℕ)
named_for i Input = i.input
named_for i Output = i.output

-- ---- interfaces that are shut above their subinterfaces

abbrev pub is_dot : Option ℕ → Bool
is_dot None = false
is_dot (Some b) = b == 46

-- the name of a subinterface: that of its main interface, a dot, a number (IOS: interface type number.subinterface)
abbrev pub is_below : List ℕ → List ℕ → Bool
is_below main name = starts_with nat_eq name main && is_dot (slice_get name (length main))

-- a subinterface that isn't shut itself
abbrev pub is_open_below : List ℕ → Interface → Bool
is_open_below main i = is_below main i.name && not i.shut

abbrev pub shut_above : List ℕ → Interface → List ConfigFinding
shut_above main i = told (is_open_below main i) (finding.ShutAbove main i.name)

-- a router takes the subinterfaces of a shut interface down (IOS: shutdown); the rules of this product take each as it is written
abbrev pub shut_findings : Config → Interface → List ConfigFinding
shut_findings c i = if i.shut then flat_map (shut_above i.name) c.interfaces else []

-- ---- all of an interface

abbrev pub interface_findings : Config → Interface → List ConfigFinding
interface_findings c i =
    named_findings c i.name Input i.input
    ++ named_findings c i.name Output i.output
    ++ shut_findings c i

-- ---- lists that decide nothing

abbrev pub is_name : List ℕ → Option (List ℕ) → Bool
is_name n None = false
is_name n (Some m) = same_text m n

-- the interface names the list
abbrev pub names_list : List ℕ → Interface → Bool
names_list n i = is_name n i.input || is_name n i.output

-- no interface names the list, and it isn't among the names of lists that stand elsewhere
abbrev pub is_unused : Config → List (List ℕ) → List ℕ → Bool
is_unused c elsewhere n = not (list_any (names_list n) c.interfaces) && not (list_any (bytes_eq n) elsewhere)

abbrev pub unused_findings : Config → List (List ℕ) → AccessList → List ConfigFinding
unused_findings c elsewhere l = told (is_unused c elsewhere l.name) (finding.UnusedList l.name)

-- ---- masks where wildcards are usual

abbrev pub is_partial : Option ℕ → Bool
is_partial None = false
is_partial (Some n) = nat_lt 0 n && nat_lt n 32

-- one to 31 ones, and zeros behind them. A wildcard has its ones behind its zeros; all zeros are one host, and all ones any
unfoldable pub is_mask_like : ℕ → Bool
is_mask_like wild = is_partial (mask_length_of wild)

abbrev pub field_findings : List ℕ → ℕ → AddressField → Masked → List ConfigFinding
field_findings list s field m = told (is_mask_like m.wild) (finding.MaskAsWildcard list s field m)

abbrev pub entry_findings : List ℕ → Entry → List ConfigFinding
entry_findings list e = field_findings list e.sequence Source e.src ++ field_findings list e.sequence Destination e.dst

abbrev pub wildcard_findings : AccessList → List ConfigFinding
wildcard_findings l = flat_map (entry_findings l.name) l.entries

-- ---- next hops

-- a prefix of this length that holds the address
abbrev pub holds_at : ℕ → ℕ → Route → Bool
holds_at length a r = r.prefix.length == length && route_holds a r

-- the greatest length below n of the routes that hold the address: by it a lookup is done (RFC 1812, 5.2.4.3)
unfoldable pub longest_below : List Route → ℕ → ℕ → Option ℕ
longest_below rs a zero = None
longest_below rs a (suc n) = if list_any (holds_at n a) rs then Some n else longest_below rs a n

unfoldable pub longest : List Route → ℕ → Option ℕ
longest rs a = longest_below rs a 33

-- another route of the prefix, which has a greater distance and may become valid
abbrev pub is_backup : Route → Route → Bool
is_backup r q = same_prefix q.prefix r.prefix && (nat_lt r.distance q.distance && nat_lt q.distance 255)

-- by another way than this next hop
abbrev pub is_other_way : ℕ → RouteExit → Bool
is_other_way n exit.Null = true
is_other_way n (exit.Port name) = true
is_other_way n (exit.Both name next) = not (next == n)
is_other_way n (exit.Next next) = not (next == n)

abbrev pub holds_otherwise : ℕ → Route → Bool
holds_otherwise n q = route_holds n q && is_other_way n q.exit

-- a route that has a backup stays valid where the subnet of its next hop is gone
abbrev pub never_floats : List Route → Route → ℕ → Bool
never_floats rs r n = list_any (is_backup r) rs && list_any (holds_otherwise n) rs

-- by the length of the prefixes in which the next hop is looked up: none, a default, the prefix of the route itself
abbrev pub lookup_findings : List Route → Route → ℕ → Option ℕ → List ConfigFinding
lookup_findings rs r n None = finding.NextNowhere r.prefix n ∷ []
lookup_findings rs r n (Some l) =
    if l == 0 then finding.NextByDefault r.prefix n ∷ []
    else (if holds_at l n r then finding.NextByItself r.prefix n ∷ []
    else told (never_floats rs r n) (finding.NeverFloats r.prefix r.distance n))

-- the interface is IP-enabled, and none of its subnets holds the address
abbrev pub is_beyond : ℕ → Option Interface → Bool
is_beyond n None = false
is_beyond n (Some i) = is_enabled i && not (list_any (λ s. holds s n) (live_subnets i))

-- the subnet has room for more than two routers
abbrev pub has_many : Subnet → Bool
has_many s = nat_lt s.length 30

-- the interface is IP-enabled and has such a subnet: neighbours answer there for what lies behind them (RFC 1027, proxy ARP)
abbrev pub is_over_many : Option Interface → Bool
is_over_many None = false
is_over_many (Some i) = list_any has_many (live_subnets i)

-- an address that no neighbour has: one of the device itself, or one to which the device drops every packet
abbrev pub address_findings : Config → Subnet → ℕ → List ConfigFinding → List ConfigFinding
address_findings c p next others =
    if is_own c next then finding.NextIsOwn p next ∷ []
    else (if is_dropped c next then finding.NextIsBroadcast p next ∷ [] else others)

abbrev pub exit_findings : Config → List Route → Route → RouteExit → List ConfigFinding
exit_findings c found r exit.Null = []
exit_findings c found r (exit.Port name) = told (is_over_many (interface_named c name)) (finding.PortAlone r.prefix name)
exit_findings c found r (exit.Both name next) =
    address_findings c r.prefix next (told (is_beyond next (interface_named c name)) (finding.NextElsewhere r.prefix name next))
exit_findings c found r (exit.Next next) =
    address_findings c r.prefix next (lookup_findings c.routes r next (longest found next))

-- of a written route, where these are the installed ones
abbrev pub route_findings : Config → List Route → Route → List ConfigFinding
route_findings c found r = exit_findings c found r r.exit

-- ---- address translation

abbrev pub is_at : Side → Side → Bool
is_at Neither s = false
is_at Inside s = is_inside s
is_at Outside s = is_outside s

-- the interface is on the side, and IP-enabled
abbrev pub is_on : Side → Interface → Bool
is_on side i = is_at side i.side && is_enabled i

abbrev pub has_side : Side → Config → Bool
has_side side c = list_any (is_on side) c.interfaces

abbrev pub is_on_if_any : Side → Option Interface → Bool
is_on_if_any side None = false
is_on_if_any side (Some i) = is_on side i

-- an interface that isn't on the side has a subnet that holds the address
abbrev pub is_aside : Side → ℕ → Interface → Bool
is_aside side a i = not (is_on side i) && list_any (λ s. holds s a) (live_subnets i)

-- a route leads out of an interface of the side; by a next hop alone it does unless that lies in a subnet of another interface
abbrev pub leads_out : Side → Config → RouteExit → Bool
leads_out side c exit.Null = false
leads_out side c (exit.Port name) = is_on_if_any side (interface_named c name)
leads_out side c (exit.Both name next) = is_on_if_any side (interface_named c name)
leads_out side c (exit.Next next) = not (list_any (is_aside side next) c.interfaces)

abbrev pub is_out : Side → Config → Route → Bool
is_out side c r = leads_out side c r.exit

abbrev pub is_same : Option ℕ → Option ℕ → Bool
is_same None o = false
is_same (Some m) None = false
is_same (Some m) (Some n) = m == n

-- no interface of the side faces the address: none of the routes in which it is looked up leads out of one
abbrev pub is_turned : Side → Config → ℕ → Bool
is_turned side c a = not (is_same (longest (installed c) a) (longest (filter (is_out side c) (installed c)) a))

-- the address of the host that a rule is for: inside, or outside
abbrev pub local_by : NatRule → NatKind → Option ℕ
local_by r kind.Plain = Some r.local
local_by r kind.Tcp = Some r.local
local_by r kind.Udp = Some r.local
local_by r kind.Outer = None

abbrev pub global_by : NatRule → NatKind → Option ℕ
global_by r kind.Outer = Some r.global
global_by r _ = None

abbrev pub host_of : Side → NatRule → Option ℕ
host_of Neither r = None
host_of Inside r = local_by r r.kind
host_of Outside r = global_by r r.kind

abbrev pub once : List ℕ → Option ℕ → List ℕ
once xs None = xs
once xs (Some x) = if list_any (nat_eq x) xs then xs else xs ++ x ∷ []

-- those of all rules, each once
abbrev pub hosts : Side → Config → List ℕ
hosts side c = fold (λ xs r. once xs (host_of side r)) [] c.nat

-- those that no interface of the side faces, where there is one
abbrev pub turned : Side → Config → List ℕ
turned side c = if has_side side c then filter (is_turned side c) (hosts side c) else []

-- a side without an interface, and the hosts that no interface of their side faces
abbrev pub side_findings : Config → List ConfigFinding
side_findings c =
    told (not (has_side Inside c)) finding.NoInside
    ++ told (not (has_side Outside c)) finding.NoOutside
    ++ map finding.NotInside (turned Inside c)
    ++ map finding.NotOutside (turned Outside c)

abbrev pub translation_findings : Config → List ConfigFinding
translation_findings c = if length c.nat == 0 then [] else side_findings c

-- ---- all together; elsewhere are the names of lists that stand in commands which aren't in a configuration's value

abbrev pub config_findings : Config → List (List ℕ) → List ConfigFinding
config_findings c elsewhere =
    flat_map (interface_findings c) c.interfaces
    ++ flat_map (unused_findings c elsewhere) c.lists
    ++ flat_map wildcard_findings c.lists
    ++ flat_map (route_findings c (installed c)) c.routes
    ++ translation_findings c
