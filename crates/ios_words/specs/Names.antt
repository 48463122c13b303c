-- The names in access lists, from the manual of IOS access lists.
use Rattle.std.specs.Prelude.{ℕ, List, [], ◌∷◌, Option, Some, None, option_map, find, codes, ◌==◌, if◌then◌else◌}
use Rattle.std.specs.Option.{option_or}
use Rattle.std.specs.Str.{bytes_eq}
use denote.Ref.{Bor}
use Rattle.ios_words.specs.Words.{number_of}

-- a row of the code: a name and what it stands for
abbrev pub row_of : {V : Type 0} → Bor (List ℕ) × V → List ℕ × V
row_of r = (r.0.now, r.1)

-- what a name stands for
abbrev pub value_of : {V : Type 0} → List (List ℕ × V) → List ℕ → Option V
value_of rows word = option_map (λ r. r.1) (find (λ r. bytes_eq r.0 word) rows)

-- IP protocols
abbrev pub protocols : List (List ℕ × ℕ)
protocols =
    (codes "icmp", 1)
    ∷ (codes "igmp", 2)
    ∷ (codes "ipinip", 4)
    ∷ (codes "tcp", 6)
    ∷ (codes "udp", 17)
    ∷ (codes "gre", 47)
    ∷ (codes "esp", 50)
    ∷ (codes "ahp", 51)
    ∷ (codes "eigrp", 88)
    ∷ (codes "ospf", 89)
    ∷ (codes "pim", 103)
    ∷ []

-- a name, or a number from 1 to 255
abbrev pub proto_of : List ℕ → Option ℕ
proto_of word = option_or (value_of protocols word) (number_of 1 255 word)

-- ports of TCP
abbrev pub tcp_ports : List (List ℕ × ℕ)
tcp_ports =
    (codes "echo", 7)
    ∷ (codes "discard", 9)
    ∷ (codes "daytime", 13)
    ∷ (codes "chargen", 19)
    ∷ (codes "ftp-data", 20)
    ∷ (codes "ftp", 21)
    ∷ (codes "telnet", 23)
    ∷ (codes "smtp", 25)
    ∷ (codes "time", 37)
    ∷ (codes "whois", 43)
    ∷ (codes "tacacs", 49)
    ∷ (codes "domain", 53)
    ∷ (codes "gopher", 70)
    ∷ (codes "finger", 79)
    ∷ (codes "www", 80)
    ∷ (codes "hostname", 101)
    ∷ (codes "pop2", 109)
    ∷ (codes "pop3", 110)
    ∷ (codes "sunrpc", 111)
    ∷ (codes "ident", 113)
    ∷ (codes "nntp", 119)
    ∷ (codes "bgp", 179)
    ∷ (codes "irc", 194)
    ∷ (codes "exec", 512)
    ∷ (codes "login", 513)
    ∷ (codes "cmd", 514)
    ∷ (codes "lpd", 515)
    ∷ (codes "talk", 517)
    ∷ (codes "uucp", 540)
    ∷ (codes "klogin", 543)
    ∷ (codes "kshell", 544)
    ∷ []

-- ports of UDP
abbrev pub udp_ports : List (List ℕ × ℕ)
udp_ports =
    (codes "echo", 7)
    ∷ (codes "discard", 9)
    ∷ (codes "time", 37)
    ∷ (codes "nameserver", 42)
    ∷ (codes "tacacs", 49)
    ∷ (codes "domain", 53)
    ∷ (codes "bootps", 67)
    ∷ (codes "bootpc", 68)
    ∷ (codes "tftp", 69)
    ∷ (codes "sunrpc", 111)
    ∷ (codes "ntp", 123)
    ∷ (codes "netbios-ns", 137)
    ∷ (codes "netbios-dgm", 138)
    ∷ (codes "netbios-ss", 139)
    ∷ (codes "snmp", 161)
    ∷ (codes "snmptrap", 162)
    ∷ (codes "xdmcp", 177)
    ∷ (codes "mobile-ip", 434)
    ∷ (codes "isakmp", 500)
    ∷ (codes "biff", 512)
    ∷ (codes "who", 513)
    ∷ (codes "syslog", 514)
    ∷ (codes "talk", 517)
    ∷ (codes "rip", 520)
    ∷ (codes "non500-isakmp", 4500)
    ∷ []

-- the names of a protocol's ports: of TCP and UDP alone (IOS: access-list, extended)
abbrev pub ports_of : ℕ → List (List ℕ × ℕ)
ports_of proto = if proto == 6 then tcp_ports else (if proto == 17 then udp_ports else [])

-- a name of the protocol's ports, or a number from 0 to 65535
abbrev pub port_of : List ℕ → ℕ → Option ℕ
port_of word proto = option_or (value_of (ports_of proto) word) (number_of 0 65535 word)

-- ICMP messages: a type alone, or a type and a code
abbrev pub messages : List (List ℕ × (ℕ × Option ℕ))
messages =
    (codes "echo-reply", (0, None))
    ∷ (codes "unreachable", (3, None))
    ∷ (codes "net-unreachable", (3, Some 0))
    ∷ (codes "host-unreachable", (3, Some 1))
    ∷ (codes "port-unreachable", (3, Some 3))
    ∷ (codes "packet-too-big", (3, Some 4))
    ∷ (codes "administratively-prohibited", (3, Some 13))
    ∷ (codes "source-quench", (4, None))
    ∷ (codes "redirect", (5, None))
    ∷ (codes "echo", (8, None))
    ∷ (codes "time-exceeded", (11, None))
    ∷ (codes "ttl-exceeded", (11, Some 0))
    ∷ (codes "parameter-problem", (12, None))
    ∷ []

-- the message of a name (IOS: access-list, extended, ICMP)
abbrev pub icmp_of : List ℕ → Option (ℕ × Option ℕ)
icmp_of word = value_of messages word

-- flags of TCP, as bits
abbrev pub tcp_flags : List (List ℕ × ℕ)
tcp_flags =
    (codes "fin", 1)
    ∷ (codes "syn", 2)
    ∷ (codes "rst", 4)
    ∷ (codes "psh", 8)
    ∷ (codes "ack", 16)
    ∷ (codes "urg", 32)
    ∷ []

-- the flag of a name (IOS: access-list, extended, TCP)
abbrev pub flag_of : List ℕ → Option ℕ
flag_of word = value_of tcp_flags word
