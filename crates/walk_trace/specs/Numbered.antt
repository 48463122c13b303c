-- The states of a trace, in the order of their numbers: by breadth, each where it is first found.
use Rattle.std.specs.Prelude.{ℕ, zero, suc, ◌+◌, Bool, ◌&&◌, ◌==◌, List, [], ◌∷◌, ◌++◌, Option, Some, None, map, filter_map, flat_map, fold, position, option_map, if◌then◌else◌}
use Rattle.std.specs.List.{list_any}
use Rattle.hdr_bits.specs.declared.header.Header.{Header}
use Rattle.net_types.specs.declared.config.Config.{Config}
use Rattle.net_types.specs.declared.network.Hop.{Hop}
use Rattle.net_types.specs.declared.network.Move.{Move}
use Rattle.net_types.specs.declared.network.Move.TheVariants.{Drop, Local}
use Rattle.net_types.specs.declared.network.State.{State}
use Rattle.net_types.specs.Routes.{rib_of, hops}
use Rattle.net_types.specs.World.{World, Seat, seat_at, same_place}
use Rattle.net_types.specs.Moves.{lets_in, coming_in, is_dropped, owner, move_by}
use Rattle.net_types.specs.Walks.{next_state}
use Rattle.net_types.specs.Order.{in_order, hop_cmp}

-- ---- the moves of a state, in order

-- the choices of the lookup of an address: a drop first, then by the interface's name and the next address, each once
abbrev pub choices : Config → ℕ → List Hop
choices c a = in_order hop_cmp (hops (rib_of c) a)

abbrev pub ordered_moves_by : World → Seat → Header → Option Seat → List Move
ordered_moves_by w seat h (Some own) = Local own.place ∷ []
ordered_moves_by w seat h None = map (move_by w seat h) (choices seat.device.config h.dst)

abbrev pub ordered_moves_in : World → Seat → Header → List Move
ordered_moves_in w seat h =
    if is_dropped seat.device.config h.dst then Drop ∷ [] else ordered_moves_by w seat h (owner seat h.dst)

abbrev pub ordered_moves_at : World → Option Seat → Header → List Move
ordered_moves_at w None h = Drop ∷ []
ordered_moves_at w (Some seat) h = if lets_in seat h then ordered_moves_in w seat (coming_in seat h) else Drop ∷ []

-- the moves of a packet in a state, one for each choice in order. As a set they are `moves` of the state: the law is
-- `moves_are_those_of_choices`
abbrev pub ordered_moves : World → State → List Move
ordered_moves w u = ordered_moves_at w (seat_at w u.place) u.header

-- ---- the states that are reached

-- where the moves of a state lead, in order
abbrev pub next_in_order : World → State → List State
next_in_order w u = filter_map next_state (ordered_moves w u)

-- where walks of n moves lead: in the order of the states after n - 1 moves, and of the moves of each
abbrev pub reached : World → ℕ → State → List State
reached w zero s = s ∷ []
reached w (suc n) s = flat_map (next_in_order w) (reached w n s)

-- where walks of fewer than n moves lead, those of fewer moves first
abbrev pub reached_below : World → State → ℕ → List State
reached_below w s zero = []
reached_below w s (suc n) = reached_below w s n ++ reached w n s

-- ---- numbers

abbrev pub same_header : Header → Header → Bool
same_header g h =
    g.dst == h.dst && (g.src == h.src && (g.proto == h.proto && (g.dport == h.dport && (g.sport == h.sport && g.flags == h.flags))))

-- two states are one where place and header are equal
abbrev pub same_state : State → State → Bool
same_state u v = same_place u.place v.place && same_header u.header v.header

-- the list with a state at its end, unless it has it
abbrev pub with_state : List State → State → List State
with_state us u = if list_any (same_state u) us then us else us ++ u ∷ []

-- each state of the list once, where it first stands
abbrev pub firsts : List State → List State
firsts us = fold with_state [] us

-- the numbered states, in the order of their numbers from 1: those that fewer than t moves lead to, each where it is first
-- found. So a state that is reached by fewer moves comes first, and of those by equally many the one by the earlier choices.
-- Laws: they are where the walks of fewer than t moves lead, each once (`numbered_are_reached`), and each state in turn gives
-- its next states that have no number the next numbers (`numbers_go_by_breadth`)
abbrev pub numbered : World → ℕ → State → List State
numbered w t s = firsts (reached_below w s t)

-- the number of a state, from 1, if it has one
abbrev pub number_of : List State → State → Option ℕ
number_of us u = option_map (λ i. i + 1) (position (same_state u) us)
