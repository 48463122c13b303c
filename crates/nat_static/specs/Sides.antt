-- The sides of a rule, as stamps that write them.
use Rattle.std.specs.Prelude.{ℕ, ◌/◌, ◌%◌, ◌^◌, ◌==◌, Bool, true, Option, Some, None}
use Rattle.cube_alg.specs.declared.stamp.Stamp.{Stamp}
use Rattle.net_types.specs.declared.config.NatKind.{NatKind}
use Rattle.net_types.specs.declared.config.NatKind.TheVariants.{Plain, Tcp, Udp, Outer}

-- only the side of a port rule has a port
abbrev pub port_of : NatKind → ℕ → Option ℕ
port_of Plain port = None
port_of Tcp port = Some port
port_of Udp port = Some port
port_of Outer port = None

-- the stamp that writes an address, and a port if there is one, as the destination
abbrev pub destination_stamp : NatKind → ℕ → ℕ → Stamp
destination_stamp kind address port = record { src = None; dst = Some address; sport = None; dport = port_of kind port }

-- the stamp that writes them as the source
abbrev pub source_stamp : NatKind → ℕ → ℕ → Stamp
source_stamp kind address port = record { src = Some address; dst = None; sport = port_of kind port; dport = None }

-- the stamp that writes nothing
abbrev pub no_stamp : Stamp
no_stamp = record { src = None; dst = None; sport = None; dport = None }

-- the header with this number has the protocol of the kind: 6 for TCP, 17 for UDP, else any
abbrev pub is_protocol : NatKind → ℕ → Bool
is_protocol Plain h = true
is_protocol Tcp h = h / 2 ^ 40 % 2 ^ 8 == 6
is_protocol Udp h = h / 2 ^ 40 % 2 ^ 8 == 17
is_protocol Outer h = true
