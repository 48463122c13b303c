-- The commands that aren't covered by their first words.
use Rattle.std.specs.Prelude.{ℕ, ◌-◌, Bool, List, [], ◌∷◌, map, length, find, Option, Some, None, option_map, unwrap_or, slice_get, Result, Ok, Err, codes}
use denote.Ref.{Bor}
use Rattle.ios_lines.specs.declared.fault.Fault.{Fault}
use Rattle.ios_lines.specs.declared.fault.Kind.TheVariants as kind
use Rattle.ios_lines.specs.declared.effect.Action.{Action}
use Rattle.ios_lines.specs.Words.{Word, Words, fault_of, begins}

-- global commands that aren't covered, by their first words
abbrev pub global_rows : List Words
global_rows =
    (codes "router" ∷ [])
    ∷ (codes "ip" ∷ codes "vrf" ∷ [])
    ∷ (codes "vrf" ∷ [])
    ∷ (codes "ipv6" ∷ codes "unicast-routing" ∷ [])
    ∷ (codes "ipv6" ∷ codes "route" ∷ [])
    ∷ (codes "ip" ∷ codes "multicast-routing" ∷ [])
    ∷ (codes "ip" ∷ codes "default-network" ∷ [])
    ∷ (codes "ip" ∷ codes "tcp" ∷ codes "intercept" ∷ [])
    ∷ (codes "bridge" ∷ [])
    ∷ (codes "mpls" ∷ codes "ip" ∷ [])
    ∷ (codes "ip" ∷ codes "nat" ∷ codes "pool" ∷ [])
    ∷ (codes "ip" ∷ codes "nat" ∷ codes "source" ∷ [])
    ∷ (codes "ip" ∷ codes "nat" ∷ codes "inside" ∷ codes "destination" ∷ [])
    ∷ (codes "ip" ∷ codes "nat" ∷ codes "inside" ∷ codes "source" ∷ codes "list" ∷ [])
    ∷ (codes "ip" ∷ codes "nat" ∷ codes "inside" ∷ codes "source" ∷ codes "route-map" ∷ [])
    ∷ (codes "ip" ∷ codes "nat" ∷ codes "outside" ∷ codes "source" ∷ codes "list" ∷ [])
    ∷ (codes "ip" ∷ codes "nat" ∷ codes "outside" ∷ codes "source" ∷ codes "route-map" ∷ [])
    ∷ (codes "no" ∷ codes "access-list" ∷ [])
    ∷ (codes "no" ∷ codes "ip" ∷ codes "access-list" ∷ [])
    ∷ (codes "no" ∷ codes "ip" ∷ codes "route" ∷ [])
    ∷ (codes "no" ∷ codes "ip" ∷ codes "nat" ∷ [])
    ∷ (codes "no" ∷ codes "ip" ∷ codes "routing" ∷ [])
    ∷ (codes "no" ∷ codes "ip" ∷ codes "classless" ∷ [])
    ∷ []

-- commands of an interface that aren't covered, by their first words
abbrev pub interface_rows : List Words
interface_rows =
    (codes "ipv6" ∷ codes "address" ∷ [])
    ∷ (codes "ipv6" ∷ codes "enable" ∷ [])
    ∷ (codes "ip" ∷ codes "vrf" ∷ [])
    ∷ (codes "vrf" ∷ [])
    ∷ (codes "ip" ∷ codes "policy" ∷ [])
    ∷ (codes "tunnel" ∷ [])
    ∷ (codes "crypto" ∷ codes "map" ∷ [])
    ∷ (codes "ip" ∷ codes "verify" ∷ codes "unicast" ∷ [])
    ∷ (codes "zone-member" ∷ [])
    ∷ (codes "ip" ∷ codes "inspect" ∷ [])
    ∷ (codes "standby" ∷ [])
    ∷ (codes "vrrp" ∷ [])
    ∷ (codes "glbp" ∷ [])
    ∷ (codes "bridge-group" ∷ [])
    ∷ (codes "switchport" ∷ [])
    ∷ (codes "channel-group" ∷ [])
    ∷ (codes "ip" ∷ codes "unnumbered" ∷ [])
    ∷ (codes "ip" ∷ codes "nat" ∷ codes "enable" ∷ [])
    ∷ (codes "ip" ∷ codes "directed-broadcast" ∷ [])
    ∷ (codes "ip" ∷ codes "broadcast-address" ∷ [])
    ∷ (codes "ip" ∷ codes "wccp" ∷ [])
    ∷ (codes "ip" ∷ codes "pim" ∷ [])
    ∷ (codes "mpls" ∷ codes "ip" ∷ [])
    ∷ (codes "xconnect" ∷ [])
    ∷ (codes "service" ∷ codes "instance" ∷ [])
    ∷ (codes "backup" ∷ [])
    ∷ []

-- the row begins the words
abbrev pub fits_row : Words → Words → Bool
fits_row words row = begins row words

-- a row of the code, by the bytes of its words
abbrev pub row_words : Bor (List (Bor (List ℕ))) → Words
row_words row = map (λ w. w.now) row.now

-- the word at a place, or nothing
abbrev pub word_of : Words → ℕ → Word
word_of words i = unwrap_or (slice_get words i) []

-- a command that begins with the n words of a row is refused at the last of these; any other is passed over
abbrev pub refused_by : Words → Option ℕ → Action → Result Action Fault
refused_by words None a = Ok a
refused_by words (Some n) a = Err (fault_of kind.NotCovered (word_of words (n - 1)))

-- a command is refused by the first row that begins it
abbrev pub uncovered : List Words → Words → Action → Result Action Fault
uncovered rows words a = refused_by words (option_map length (find (fits_row words) rows)) a
