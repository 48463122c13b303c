-- Static address translation: how a header changes between inside and outside. The rules are those of IOS static NAT: plain
-- and port rules are for hosts inside (`ip nat inside source static`), outer rules for hosts outside (`ip nat outside source
-- static`).
use Rattle.std.specs.Prelude.{ℕ, Bool, true, false, ◌&&◌, List, Option, Some, None, find, ◌==◌}
use Rattle.hdr_bits.specs.declared.header.Header.{Header}
use Rattle.net_types.specs.declared.config.NatRule.{NatRule}
use Rattle.net_types.specs.declared.config.NatKind.{NatKind}
use Rattle.net_types.specs.declared.config.NatKind.TheVariants.{Plain, Tcp, Udp, Outer}

-- a plain rule is for every protocol and port
abbrev pub is_plain : NatKind → Bool
is_plain Plain = true
is_plain Tcp = false
is_plain Udp = false
is_plain Outer = false

-- a port rule is for TCP, protocol 6, or UDP, protocol 17
abbrev pub is_port_rule : NatKind → ℕ → Bool
is_port_rule Plain proto = false
is_port_rule Tcp proto = proto == 6
is_port_rule Udp proto = proto == 17
is_port_rule Outer proto = false

-- an outer rule is for every protocol and port
abbrev pub is_outer : NatKind → Bool
is_outer Plain = false
is_outer Tcp = false
is_outer Udp = false
is_outer Outer = true

-- ---- hosts inside: plain and port rules

-- from outside a port rule matches its global address and port as the destination, and a plain rule its global address
abbrev pub port_fits_dst : Header → NatRule → Bool
port_fits_dst h r = is_port_rule r.kind h.proto && (r.global == h.dst && r.global_port == h.dport)

abbrev pub plain_fits_dst : Header → NatRule → Bool
plain_fits_dst h r = is_plain r.kind && r.global == h.dst

-- from inside a port rule matches its local address and port as the source, and a plain rule its local address
abbrev pub port_fits_src : Header → NatRule → Bool
port_fits_src h r = is_port_rule r.kind h.proto && (r.local == h.src && r.local_port == h.sport)

abbrev pub plain_fits_src : Header → NatRule → Bool
plain_fits_src h r = is_plain r.kind && r.local == h.src

-- the destination becomes the local side of the port rule that matched, else of the plain rule, else it stays
abbrev pub with_dst : Header → Option NatRule → Option NatRule → Header
with_dst h (Some r) plain = record h { dst = r.local; dport = r.local_port }
with_dst h None (Some r) = record h { dst = r.local }
with_dst h None None = h

-- the source becomes the global side of the port rule that matched, else of the plain rule, else it stays
abbrev pub with_src : Header → Option NatRule → Option NatRule → Header
with_src h (Some r) plain = record h { src = r.global; sport = r.global_port }
with_src h None (Some r) = record h { src = r.global }
with_src h None None = h

-- ---- hosts outside: outer rules

-- from outside an outer rule matches its global address as the source, and from inside its local address as the destination
abbrev pub outer_fits_src : Header → NatRule → Bool
outer_fits_src h r = is_outer r.kind && r.global == h.src

abbrev pub outer_fits_dst : Header → NatRule → Bool
outer_fits_dst h r = is_outer r.kind && r.local == h.dst

-- the source becomes the local address of the outer rule that matched, else it stays
abbrev pub with_outer_src : Header → Option NatRule → Header
with_outer_src h (Some r) = record h { src = r.local }
with_outer_src h None = h

-- the destination becomes the global address of the outer rule that matched, else it stays
abbrev pub with_outer_dst : Header → Option NatRule → Header
with_outer_dst h (Some r) = record h { dst = r.global }
with_outer_dst h None = h

-- ---- both, each judged on the header as it comes

-- from outside the first port rule that matches replaces the destination, else the first plain one (IOS: ip nat inside
-- source static); and the first outer rule that matches replaces the source (IOS: ip nat outside source static)
abbrev pub from_outside : List NatRule → Header → Header
from_outside rules h =
    with_outer_src (with_dst h (find (port_fits_dst h) rules) (find (plain_fits_dst h) rules)) (find (outer_fits_src h) rules)

-- from inside the first port rule that matches replaces the source, else the first plain one (IOS: ip nat inside source
-- static); and the first outer rule that matches replaces the destination (IOS: ip nat outside source static)
abbrev pub from_inside : List NatRule → Header → Header
from_inside rules h =
    with_outer_dst (with_src h (find (port_fits_src h) rules) (find (plain_fits_src h) rules)) (find (outer_fits_dst h) rules)
