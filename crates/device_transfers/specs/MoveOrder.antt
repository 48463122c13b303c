-- The order of moves: by kind, then by place, then by header.
use Rattle.std.specs.Prelude.{ℕ, Option, Some, None}
use Rattle.std.specs.Option.{option_cmp}
use Rattle.std.specs.Ordering.{nat_cmp, ordering_then}
use Rattle.std.specs.declared.cmp.Ordering.{Ordering}
use Rattle.hdr_bits.specs.declared.header.Header.{Header}
use Rattle.net_types.specs.declared.network.Move.{Move}
use Rattle.net_types.specs.declared.network.Move.TheVariants.{Drop, Local, Lost, Exit, Go}
use Rattle.net_types.specs.declared.network.Place.{Place}
use Rattle.net_types.specs.Order.{place_cmp}

-- dropped, local, lost, exit, go
abbrev pub kind : Move → ℕ
kind Drop = 0
kind (Local p) = 1
kind Lost = 2
kind (Exit p h) = 3
kind (Go p h) = 4

abbrev pub place_of : Move → Option Place
place_of Drop = None
place_of (Local p) = Some p
place_of Lost = None
place_of (Exit p h) = Some p
place_of (Go p h) = Some p

abbrev pub header_in : Move → Option Header
header_in Drop = None
header_in (Local p) = None
header_in Lost = None
header_in (Exit p h) = Some h
header_in (Go p h) = Some h

-- by the fields, in the order of their bits
abbrev pub header_cmp : Header → Header → Ordering
header_cmp g h =
    ordering_then (nat_cmp g.dst h.dst) (ordering_then (nat_cmp g.src h.src) (ordering_then (nat_cmp g.proto h.proto) (ordering_then (nat_cmp g.dport h.dport) (ordering_then (nat_cmp g.sport h.sport) (nat_cmp g.flags h.flags)))))

abbrev pub move_cmp : Move → Move → Ordering
move_cmp a b =
    ordering_then (nat_cmp (kind a) (kind b)) (ordering_then (option_cmp place_cmp (place_of a) (place_of b)) (option_cmp header_cmp (header_in a) (header_in b)))
