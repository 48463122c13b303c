-- Moves: what a device does with a packet that arrives, apart from its TTL. The order of lists, translation and lookup
-- is that of IOS (NAT order of operation); the drop of directed broadcasts and of addresses from 224.0.0.0 on is this
-- product's choice.
use Rattle.std.specs.Prelude.{ℕ, ◌+◌, ◌-◌, ◌*◌, ◌^◌, Bool, true, false, ◌&&◌, ◌||◌, List, [], ◌∷◌, Option, Some, None, map, find, position, nat_le, ◌==◌, option_and_then, if◌then◌else◌}
use Rattle.std.specs.List.{list_any}
use Rattle.hdr_bits.specs.declared.header.Header.{Header}
use Rattle.net_types.specs.declared.config.Config.{Config}
use Rattle.net_types.specs.declared.config.AccessList.{AccessList}
use Rattle.net_types.specs.declared.config.Interface.{Interface}
use Rattle.net_types.specs.declared.config.Subnet.{Subnet}
use Rattle.net_types.specs.declared.config.Side.{Side}
use Rattle.net_types.specs.declared.config.Side.TheVariants.{Neither, Inside, Outside}
use Rattle.net_types.specs.declared.network.Hop.{Hop}
use Rattle.net_types.specs.declared.network.Hop.TheVariants.{Discard, Out}
use Rattle.net_types.specs.declared.network.Move.{Move}
use Rattle.net_types.specs.declared.network.Move.TheVariants.{Drop, Local, Lost, Exit, Go}
use Rattle.net_types.specs.declared.network.Place.{Place}
use Rattle.net_types.specs.declared.network.Segment.{Segment}
use Rattle.net_types.specs.AccessLists.{verdict, passes}
use Rattle.net_types.specs.Translation.{from_inside, from_outside}
use Rattle.net_types.specs.Routes.{same_text, live_subnets, is_enabled, has_address, network_of, rib_of, hops}
use Rattle.net_types.specs.World.{World, Seat, seat_in, seat_at, seat_named, segment_of, is_other, answers, is_silent}

-- ---- lists and sides

-- the first list of that name
abbrev pub list_named : Config → Option (List ℕ) → Option AccessList
list_named c name = option_and_then (λ n. find (λ l. same_text l.name n) c.lists) name

-- an interface without a list, or with one that doesn't exist, passes everything (IOS: ip access-group)
abbrev pub passes_list : Config → Option (List ℕ) → Header → Bool
passes_list c name h = passes (verdict (list_named c name) h)

abbrev pub is_inside : Side → Bool
is_inside Neither = false
is_inside Inside = true
is_inside Outside = false

abbrev pub is_outside : Side → Bool
is_outside Neither = false
is_outside Inside = false
is_outside Outside = true

-- ---- arrival

-- a packet is let in where the interface is IP-enabled and its input list passes it
abbrev pub lets_in : Seat → Header → Bool
lets_in seat h = is_enabled seat.interface && passes_list seat.device.config seat.interface.input h

-- at an outside interface the packet is translated from outside, after the input list and before the lookup (IOS: NAT order
-- of operation)
abbrev pub coming_in : Seat → Header → Header
coming_in seat h = if is_outside seat.interface.side then from_outside seat.device.config.nat h else h

-- multicast and reserved destinations, 224.0.0.0/4 and 240.0.0.0/4 (RFC 1112)
abbrev pub is_reserved : ℕ → Bool
is_reserved a = nat_le (14 * 2 ^ 28) a

-- the directed broadcast of a subnet, its all-ones address, where its length is at most 30 (RFC 1812, 5.3.5; RFC 3021)
abbrev pub is_broadcast : ℕ → Subnet → Bool
is_broadcast a s = nat_le s.length 30 && a + 1 == (network_of s).address + 2 ^ (32 - s.length)

abbrev pub has_broadcast : ℕ → Interface → Bool
has_broadcast a i = list_any (is_broadcast a) (live_subnets i)

-- a destination that is dropped at once: multicast or reserved, or a directed broadcast of an IP-enabled interface of
-- the device
abbrev pub is_dropped : Config → ℕ → Bool
is_dropped c a = is_reserved a || list_any (has_broadcast a) c.interfaces

-- an IP-enabled interface has the address
abbrev pub owns : ℕ → Interface → Bool
owns a i = has_address a (live_subnets i)

-- the first such interface of the device
abbrev pub owner : Seat → ℕ → Option Seat
owner seat a = option_and_then (seat_in seat.device) (position (owns a) seat.device.config.interfaces)

-- ---- sending

-- on a point-to-point segment the packet goes to the other end, whatever the next address
abbrev pub send_p2p : Place → Header → Option Place → Move
send_p2p e h None = Exit e h
send_p2p e h (Some q) = Go q h

-- on a lan it goes to the end that is IP-enabled and has the next address; it is lost where only an end that isn't
-- IP-enabled has it; else it leaves the network
abbrev pub send_lan : Place → Header → Option Place → Option Place → Move
send_lan e h (Some q) silent = Go q h
send_lan e h None (Some q) = Lost
send_lan e h None None = Exit e h

-- an interface on no segment, or without another end on it, leads out of the network
abbrev pub send : World → Place → ℕ → Header → Option Segment → Move
send w e a h None = Exit e h
send w e a h (Some s) =
    if s.lan then send_lan e h (find (answers w a e) s.ends) (find (is_silent w a e) s.ends)
    else send_p2p e h (find (is_other e) s.ends)

-- ---- leaving

-- from an inside to an outside interface the packet is translated from inside, after the lookup (IOS: NAT order of
-- operation)
abbrev pub going_out : Seat → Seat → Header → Header
going_out seat out h =
    if is_inside seat.interface.side && is_outside out.interface.side then from_inside seat.device.config.nat h else h

-- the output list sees the translated packet, and what it denies is lost after the TTL was looked at. The next address a is
-- the lookup's, also where the destination was translated
abbrev pub leave_with : World → Seat → Header → ℕ → Seat → Move
leave_with w seat h a out =
    if passes_list seat.device.config out.interface.output h then send w out.place a h (segment_of w out.place) else Lost

abbrev pub leave : World → Seat → Header → ℕ → Seat → Move
leave w seat h a out = leave_with w seat (going_out seat out h) a out

-- an interface that the device doesn't have, or that has no number, loses the packet. No accepted configuration routes
-- to one
abbrev pub leave_if_any : World → Seat → Header → ℕ → Option Seat → Move
leave_if_any w seat h a None = Lost
leave_if_any w seat h a (Some out) = leave w seat h a out

-- what becomes of the packet by one choice of the lookup
abbrev pub move_by : World → Seat → Header → Hop → Move
move_by w seat h Discard = Drop
move_by w seat h (Out name a) = leave_if_any w seat h a (seat_named seat.device name)

-- ---- all together

-- a destination of the device itself is local there; any other is forwarded by each choice of its lookup
abbrev pub local_or_forward : World → Seat → Header → Option Seat → List Move
local_or_forward w seat h (Some own) = Local own.place ∷ []
local_or_forward w seat h None = map (move_by w seat h) (hops (rib_of seat.device.config) h.dst)

abbrev pub moves_in : World → Seat → Header → List Move
moves_in w seat h =
    if is_dropped seat.device.config h.dst then Drop ∷ [] else local_or_forward w seat h (owner seat h.dst)

-- an absent place drops everything
abbrev pub moves_at : World → Option Seat → Header → List Move
moves_at w None h = Drop ∷ []
moves_at w (Some seat) h = if lets_in seat h then moves_in w seat (coming_in seat h) else Drop ∷ []

-- all that may become of a packet with this header that arrives at this place, as a set: input list, translation from
-- outside, drops, local, lookup, translation from inside, output list, sending (IOS: NAT order of operation)
abbrev pub moves : World → Place → Header → List Move
moves w p h = moves_at w (seat_at w p) h
