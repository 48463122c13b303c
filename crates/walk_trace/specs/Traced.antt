-- What a trace says: each numbered state with what its device does, in the order of the device's rule, and the reasons; and the
-- label of the header. A trace is computed for each network: lists, translation, lookups and sends are those of the rules.
use Rattle.std.specs.Prelude.{ℕ, ◌&&◌, List, Option, Some, None, map, find, option_map, if◌then◌else◌}
use Rattle.std.specs.Option.{option_or}
use Rattle.hdr_bits.specs.declared.header.Header.{Header}
use Rattle.cube_alg.specs.declared.stamp.Stamp.{Stamp}
use Rattle.net_types.specs.declared.config.Config.{Config}
use Rattle.net_types.specs.declared.config.NatRule.{NatRule}
use Rattle.net_types.specs.declared.network.Hop.{Hop}
use Rattle.net_types.specs.declared.network.Hop.TheVariants as hop
use Rattle.net_types.specs.declared.network.Move.{Move}
use Rattle.net_types.specs.declared.network.Move.TheVariants as move
use Rattle.net_types.specs.declared.network.Place.{Place}
use Rattle.net_types.specs.declared.network.State.{State}
use Rattle.net_types.specs.declared.network.Verdict.{Verdict}
use Rattle.net_types.specs.declared.network.Verdict.TheVariants.{Passed, Permit, Deny, DenyEnd}
use Rattle.net_types.specs.AccessLists.{verdict, passes}
use Rattle.net_types.specs.Translation.{port_fits_dst, plain_fits_dst, port_fits_src, plain_fits_src, outer_fits_src, outer_fits_dst}
use Rattle.net_types.specs.Routes.{is_enabled}
use Rattle.net_types.specs.World.{World, Seat, seat_at, seat_named, segment_of}
use Rattle.net_types.specs.Moves.{list_named, is_inside, is_outside, coming_in, going_out, is_dropped, owner, send}
use Rattle.net_types.specs.Walks.{exit, outcome_of, state_at, label}
use Rattle.walk_trace.specs.declared.types.Trace.{Trace}
use Rattle.walk_trace.specs.declared.types.TraceState.{TraceState}
use Rattle.walk_trace.specs.declared.types.TraceEnd.{TraceEnd}
use Rattle.walk_trace.specs.declared.types.TraceEnd.TheVariants.{Closed, Denied, Broadcast, Local, Choices}
use Rattle.walk_trace.specs.declared.types.TraceChoice.{TraceChoice}
use Rattle.walk_trace.specs.declared.types.TraceChoice.TheVariants.{Discard, Out}
use Rattle.walk_trace.specs.declared.types.TraceFate.{TraceFate}
use Rattle.walk_trace.specs.declared.types.TraceFate.TheVariants as fate
use Rattle.walk_trace.specs.Numbered.{choices, numbered, number_of}

-- ---- lists

-- what the device's list of this name says
abbrev pub said : Config → Option (List ℕ) → Header → Verdict
said c name h = verdict (list_named c name) h

-- the name of the list that was tried: none where everything passes, since there is no such list or it has no entry
abbrev pub tried : Verdict → Option (List ℕ) → Option (List ℕ)
tried Passed name = None
tried (Permit sequence) name = name
tried (Deny sequence) name = name
tried DenyEnd name = name

-- ---- translation: what a rule wrote that matched, also where the same value was there

abbrev pub nothing_written : Stamp
nothing_written = record { src = None; dst = None; sport = None; dport = None }

-- from outside the first port rule that matches the destination writes its local address and port, else the first plain rule
-- its local address; and the first outer rule that matches the source writes its local address
abbrev pub written_from_outside : List NatRule → Header → Stamp
written_from_outside rules h =
    record {
      src = option_map (λ r. r.local) (find (outer_fits_src h) rules);
      dst = option_map (λ r. r.local) (option_or (find (port_fits_dst h) rules) (find (plain_fits_dst h) rules));
      sport = None;
      dport = option_map (λ r. r.local_port) (find (port_fits_dst h) rules);
    }

-- from inside the first port rule that matches the source writes its global address and port, else the first plain rule its
-- global address; and the first outer rule that matches the destination writes its global address
abbrev pub written_from_inside : List NatRule → Header → Stamp
written_from_inside rules h =
    record {
      src = option_map (λ r. r.global) (option_or (find (port_fits_src h) rules) (find (plain_fits_src h) rules));
      dst = option_map (λ r. r.global) (find (outer_fits_dst h) rules);
      sport = option_map (λ r. r.global_port) (find (port_fits_src h) rules);
      dport = None;
    }

-- the packet is translated where it comes in at an outside interface
abbrev pub written_coming_in : Seat → Header → Stamp
written_coming_in seat h =
    if is_outside seat.interface.side then written_from_outside seat.device.config.nat h else nothing_written

-- and where it goes from an inside to an outside interface
abbrev pub written_going_out : Seat → Seat → Header → Stamp
written_going_out seat out h =
    if is_inside seat.interface.side && is_outside out.interface.side then written_from_inside seat.device.config.nat h else nothing_written

-- ---- what becomes of a packet by one choice: numbers are the numbered states in order, and g is the header at the ingress

-- what is sent leaves the network, is lost or goes on to a state, which may have a number. Sending does nothing else
abbrev pub fate_by : List State → Header → Move → TraceFate
fate_by numbers g move.Drop = fate.Lost
fate_by numbers g (move.Local p) = fate.Lost
fate_by numbers g move.Lost = fate.Lost
fate_by numbers g (move.Exit p h) = fate.Exit (outcome_of g (exit p h))
fate_by numbers g (move.Go p h) = fate.Go (number_of numbers (state_at p h))

-- a packet that the output list denies isn't sent
abbrev pub fate_after : World → List State → Header → Seat → ℕ → Header → Verdict → TraceFate
fate_after w numbers g out a h v =
    if passes v then fate_by numbers g (send w out.place a h (segment_of w out.place)) else fate.Denied

-- h is the header after translation, written is what that wrote, and v is what the output list says of h
abbrev pub choice_with : World → List State → Header → Seat → ℕ → Header → Stamp → Verdict → TraceChoice
choice_with w numbers g out a h written v =
    Out out.place a written.src written.sport written.dst (tried v out.interface.output) v (fate_after w numbers g out a h v)

-- the output list sees the translated packet
abbrev pub choice_after : World → List State → Header → Seat → Seat → ℕ → Header → Stamp → TraceChoice
choice_after w numbers g seat out a h written =
    choice_with w numbers g out a h written (said seat.device.config out.interface.output h)

-- the packet with this header leaves by the interface
abbrev pub choice_of : World → List State → Header → Seat → Header → ℕ → Seat → TraceChoice
choice_of w numbers g seat h a out =
    choice_after w numbers g seat out a (going_out seat out h) (written_going_out seat out h)

-- an interface that the device doesn't have, or that has no number, can't be told: it stands as a drop. No accepted
-- configuration routes to one
abbrev pub choice_if_any : World → List State → Header → Seat → Header → ℕ → Option Seat → TraceChoice
choice_if_any w numbers g seat h a None = Discard
choice_if_any w numbers g seat h a (Some out) = choice_of w numbers g seat h a out

abbrev pub choice_by : World → List State → Header → Seat → Header → Hop → TraceChoice
choice_by w numbers g seat h hop.Discard = Discard
choice_by w numbers g seat h (hop.Out name a) = choice_if_any w numbers g seat h a (seat_named seat.device name)

-- ---- what becomes of a packet in a state

-- a destination of the device itself is local there; for any other the choices of its lookup are told in order
abbrev pub end_by : World → List State → Header → Seat → Header → Option Seat → TraceEnd
end_by w numbers g seat h (Some own) = Local own.place
end_by w numbers g seat h None = Choices (map (choice_by w numbers g seat h) (choices seat.device.config h.dst))

-- h is the header after translation from outside. Multicast, reserved and broadcast destinations are dropped at once
abbrev pub end_in : World → List State → Header → Seat → Header → TraceEnd
end_in w numbers g seat h =
    if is_dropped seat.device.config h.dst then Broadcast else end_by w numbers g seat h (owner seat h.dst)

-- the place is absent or not IP-enabled
abbrev pub closed : State → TraceState
closed u =
    record { place = u.place; header = u.header; input = None; verdict = Passed; dst = None; dport = None; src = None; end = Closed }

-- the input list denies the packet
abbrev pub turned_away : State → Seat → Verdict → TraceState
turned_away u seat v =
    record { place = u.place; header = u.header; input = tried v seat.interface.input; verdict = v; dst = None; dport = None; src = None; end = Denied }

-- the input list passes the packet, and written is what translation from outside wrote
abbrev pub taken_in : World → List State → Header → State → Seat → Verdict → Stamp → TraceState
taken_in w numbers g u seat v written =
    record { place = u.place; header = u.header; input = tried v seat.interface.input; verdict = v; dst = written.dst; dport = written.dport; src = written.src; end = end_in w numbers g seat (coming_in seat u.header) }

abbrev pub judged : World → List State → Header → State → Seat → Verdict → TraceState
judged w numbers g u seat v =
    if passes v then taken_in w numbers g u seat v (written_coming_in seat u.header) else turned_away u seat v

abbrev pub open_state : World → List State → Header → State → Seat → TraceState
open_state w numbers g u seat = judged w numbers g u seat (said seat.device.config seat.interface.input u.header)

abbrev pub state_if_any : World → List State → Header → State → Option Seat → TraceState
state_if_any w numbers g u None = closed u
state_if_any w numbers g u (Some seat) = if is_enabled seat.interface then open_state w numbers g u seat else closed u

-- what is told of a state
abbrev pub state_told : World → List State → Header → State → TraceState
state_told w numbers g u = state_if_any w numbers g u (seat_at w u.place)

-- ---- the trace

abbrev pub states_told : World → List State → Header → List TraceState
states_told w numbers g = map (state_told w numbers g) numbers

-- the trace of a header that enters at a place with the TTL t: what is told of each numbered state in order, and the label
unfoldable pub traced : World → ℕ → Place → Header → Trace
traced w t p h =
    record { states = states_told w (numbered w t (state_at p h)) h; outcome = label w t p h }
