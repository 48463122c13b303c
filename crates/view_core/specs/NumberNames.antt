-- The names of numbers: those that access lists have for protocols, ports and ICMP messages.
use Rattle.std.specs.Prelude.{ℕ, List, [], ◌∷◌, ◌++◌, Option, option_map, find, codes, ◌==◌}
use Rattle.ios_words.specs.Names.{tcp_ports, udp_ports}

-- the first name of a number
abbrev pub name_of : List (List ℕ × ℕ) → ℕ → Option (List ℕ)
name_of rows number = option_map (λ r. r.0) (find (λ r. r.1 == number) rows)

-- ports 22 and 443 have no names there, and are called as in the registry of IANA
abbrev pub tcp_names : List (List ℕ × ℕ)
tcp_names = tcp_ports ++ (codes "ssh", 22) ∷ (codes "https", 443) ∷ []

abbrev pub udp_names : List (List ℕ × ℕ)
udp_names = udp_ports ++ (codes "https", 443) ∷ []

-- the types of ICMP messages whose codes don't matter
abbrev pub type_names : List (List ℕ × ℕ)
type_names =
    (codes "echo-reply", 0)
    ∷ (codes "unreachable", 3)
    ∷ (codes "source-quench", 4)
    ∷ (codes "redirect", 5)
    ∷ (codes "echo", 8)
    ∷ (codes "time-exceeded", 11)
    ∷ (codes "parameter-problem", 12)
    ∷ []

-- the messages that are a type and a code, each a type times 256 plus a code
abbrev pub code_names : List (List ℕ × ℕ)
code_names =
    (codes "net-unreachable", 768)
    ∷ (codes "host-unreachable", 769)
    ∷ (codes "port-unreachable", 771)
    ∷ (codes "packet-too-big", 772)
    ∷ (codes "administratively-prohibited", 781)
    ∷ (codes "ttl-exceeded", 2816)
    ∷ []
