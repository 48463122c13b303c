-- Access lists: which entries match a header, and what the first of them decides. The rules are those of IOS
-- access lists (the commands `access-list` and `ip access-list`), numbered or named, standard or extended.
use Rattle.std.specs.Prelude.{ℕ, ◌+◌, ◌*◌, ◌/◌, Bool, true, false, not, ◌&&◌, ◌||◌, List, [], ◌∷◌, Option, Some, None, find, nat_lt, nat_le, ◌==◌, bit_and, bit_or, if◌then◌else◌}
use Rattle.std.specs.List.{list_any}
use Rattle.hdr_bits.specs.declared.header.Header.{Header}
use Rattle.net_types.specs.declared.config.AccessList.{AccessList}
use Rattle.net_types.specs.declared.config.Entry.{Entry}
use Rattle.net_types.specs.declared.config.Masked.{Masked}
use Rattle.net_types.specs.declared.config.PortTest.{PortTest}
use Rattle.net_types.specs.declared.config.PortTest.TheVariants as port
use Rattle.net_types.specs.declared.config.IcmpTest.{IcmpTest}
use Rattle.net_types.specs.declared.config.IcmpTest.TheVariants as icmp
use Rattle.net_types.specs.declared.config.FlagTest.{FlagTest}
use Rattle.net_types.specs.declared.config.FlagTest.TheVariants as flag
use Rattle.net_types.specs.declared.network.Verdict.{Verdict}
use Rattle.net_types.specs.declared.network.Verdict.TheVariants.{Passed, Permit, Deny, DenyEnd}

-- an entry for `ip` has no protocol and takes any; another takes its own (IOS: access-list, extended)
abbrev pub is_proto : Option ℕ → ℕ → Bool
is_proto None proto = true
is_proto (Some wanted) proto = wanted == proto

-- an address agrees in each bit where the wildcard mask is 0, and the other bits are ignored (IOS: wildcard masks)
abbrev pub agrees : Masked → ℕ → Bool
agrees m address = bit_or address m.wild == bit_or m.value m.wild

-- a port test means what its operator says: eq, neq, gt, lt, range with both ends (IOS: access-list, extended)
abbrev pub meets_port : PortTest → ℕ → Bool
meets_port port.Any p = true
meets_port (port.Eq ports) p = list_any (λ q. q == p) ports
meets_port (port.Neq q) p = not (p == q)
meets_port (port.Gt q) p = nat_lt q p
meets_port (port.Lt q) p = nat_lt p q
meets_port (port.Range low high) p = nat_le low p && nat_le p high

-- the source port field of an ICMP header holds type * 256 + code, the first sixteen bits after its IP header (RFC 792)
abbrev pub meets_icmp : IcmpTest → ℕ → Bool
meets_icmp icmp.Any sport = true
meets_icmp (icmp.Kind kind) sport = sport / 256 == kind
meets_icmp (icmp.Exact kind code) sport = sport == kind * 256 + code

-- match-any: one flag of `set` is 1 or one of `clear` is 0; match-all: each of `set` is 1 and each of `clear` is 0
-- (IOS: access-list, extended, TCP flags; `established` is match-any of ACK and RST)
abbrev pub meets_flags : FlagTest → ℕ → Bool
meets_flags flag.Any flags = true
meets_flags (flag.AnyOf set clear) flags = not (bit_and flags set == 0) || not (bit_and flags clear == clear)
meets_flags (flag.AllOf set clear) flags = bit_and flags set == set && bit_and flags clear == 0

-- an entry matches a header where all its parts do (IOS: access-list)
abbrev pub matches : Entry → Header → Bool
matches e h =
    is_proto e.proto h.proto && (agrees e.src h.src && (agrees e.dst h.dst
    && (meets_port e.sport h.sport && (meets_port e.dport h.dport
    && (meets_icmp e.icmp h.sport && meets_flags e.flags h.flags)))))

-- an entry permits or denies, under its sequence number; where none decides, the end of the list denies
abbrev pub verdict_of : Option Entry → Verdict
verdict_of None = DenyEnd
verdict_of (Some e) = if e.permit then Permit e.sequence else Deny e.sequence

-- the first entry that matches decides; a list without entries passes everything (IOS: access-list, ip access-group)
abbrev pub entries_verdict : List Entry → Header → Verdict
entries_verdict [] h = Passed
entries_verdict (e ∷ es) h = verdict_of (find (λ x. matches x h) (e ∷ es))

-- an interface without a list passes everything (IOS: ip access-group)
abbrev pub verdict : Option AccessList → Header → Verdict
verdict None h = Passed
verdict (Some list) h = entries_verdict list.entries h

-- what isn't denied passes
abbrev pub passes : Verdict → Bool
passes Passed = true
passes (Permit sequence) = true
passes (Deny sequence) = false
passes DenyEnd = false
