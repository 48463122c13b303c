-- How a configuration is written: a line for each thing that it says.
use Rattle.std.specs.Prelude.{ℕ, ◌/◌, ◌%◌, ◌^◌, Bool, true, false, List, [], ◌∷◌, ◌++◌, map, flat_map, Option, Some, None, option_to_list, codes, decimal, ◌==◌, if◌then◌else◌, bit_and}
use Rattle.net_text.specs.Texts.{spell}
use Rattle.net_types.specs.declared.config.Config.{Config}
use Rattle.net_types.specs.declared.config.Interface.{Interface}
use Rattle.net_types.specs.declared.config.Subnet.{Subnet}
use Rattle.net_types.specs.declared.config.Side.{Side}
use Rattle.net_types.specs.declared.config.Side.TheVariants as side
use Rattle.net_types.specs.declared.config.Route.{Route}
use Rattle.net_types.specs.declared.config.RouteExit.{RouteExit}
use Rattle.net_types.specs.declared.config.RouteExit.TheVariants as exit
use Rattle.net_types.specs.declared.config.NatRule.{NatRule}
use Rattle.net_types.specs.declared.config.NatKind.{NatKind}
use Rattle.net_types.specs.declared.config.NatKind.TheVariants as nat
use Rattle.net_types.specs.declared.config.AccessList.{AccessList}
use Rattle.net_types.specs.declared.config.Entry.{Entry}
use Rattle.net_types.specs.declared.config.Masked.{Masked}
use Rattle.net_types.specs.declared.config.PortTest.{PortTest}
use Rattle.net_types.specs.declared.config.PortTest.TheVariants as ports
use Rattle.net_types.specs.declared.config.IcmpTest.{IcmpTest}
use Rattle.net_types.specs.declared.config.IcmpTest.TheVariants as icmp
use Rattle.net_types.specs.declared.config.FlagTest.{FlagTest}
use Rattle.net_types.specs.declared.config.FlagTest.TheVariants as flags
use Rattle.ios_words.specs.Words.{mask_of}
use Rattle.ios_lines.specs.Words.{Word, Words}

-- a line: whether it is indented, and its words
abbrev pub Row : Type 0
Row = Bool × Words

-- an address: four numbers with dots between
unfoldable pub address_word : ℕ → Word
address_word a = decimal (a / 2 ^ 24) ++ (46 ∷ decimal (a / 2 ^ 16 % 2 ^ 8) ++ (46 ∷ decimal (a / 2 ^ 8 % 2 ^ 8) ++ (46 ∷ decimal (a % 2 ^ 8))))

-- an address and the mask of its network
abbrev pub subnet_words : Subnet → Words
subnet_words s = address_word s.address ∷ address_word (mask_of s.length) ∷ []

-- ---- interfaces

abbrev pub primary_row : Subnet → Row
primary_row s = (true, codes "ip" ∷ codes "address" ∷ subnet_words s)

abbrev pub secondary_row : Subnet → Row
secondary_row s = (true, codes "ip" ∷ codes "address" ∷ subnet_words s ++ codes "secondary" ∷ [])

abbrev pub shut_rows : Bool → List Row
shut_rows true = (true, codes "shutdown" ∷ []) ∷ []
shut_rows false = []

abbrev pub group_row : Word → Word → Row
group_row direction list = (true, codes "ip" ∷ codes "access-group" ∷ list ∷ direction ∷ [])

abbrev pub side_rows : Side → List Row
side_rows side.Neither = []
side_rows side.Inside = (true, codes "ip" ∷ codes "nat" ∷ codes "inside" ∷ []) ∷ []
side_rows side.Outside = (true, codes "ip" ∷ codes "nat" ∷ codes "outside" ∷ []) ∷ []

abbrev pub interface_row : Interface → Row
interface_row i = (false, codes "interface" ∷ i.name ∷ [])

abbrev pub interface_rows : Interface → List Row
interface_rows i =
    interface_row i
    ∷ (map primary_row (option_to_list i.primary)
    ++ (map secondary_row i.secondary
    ++ (shut_rows i.shut
    ++ (map (group_row (codes "in")) (option_to_list i.input)
    ++ (map (group_row (codes "out")) (option_to_list i.output)
    ++ side_rows i.side)))))

-- ---- routes

abbrev pub exit_words : RouteExit → Words
exit_words exit.Null = codes "Null0" ∷ []
exit_words (exit.Port name) = name ∷ []
exit_words (exit.Both name next) = name ∷ address_word next ∷ []
exit_words (exit.Next next) = address_word next ∷ []

abbrev pub route_row : Route → Row
route_row r = (false, codes "ip" ∷ codes "route" ∷ subnet_words r.prefix ++ (exit_words r.exit ++ (decimal r.distance ∷ [])))

-- ---- address translation

abbrev pub sides_with_ports : NatRule → Words
sides_with_ports r = address_word r.local ∷ decimal r.local_port ∷ address_word r.global ∷ decimal r.global_port ∷ []

abbrev pub rule_words : NatRule → NatKind → Words
rule_words r nat.Plain = address_word r.local ∷ address_word r.global ∷ []
rule_words r nat.Tcp = codes "tcp" ∷ sides_with_ports r
rule_words r nat.Udp = codes "udp" ∷ sides_with_ports r
rule_words r nat.Outer = address_word r.global ∷ address_word r.local ∷ []

abbrev pub rule_side : NatKind → Word
rule_side nat.Plain = codes "inside"
rule_side nat.Tcp = codes "inside"
rule_side nat.Udp = codes "inside"
rule_side nat.Outer = codes "outside"

-- the start of a rule's line, up to its sides
abbrev pub rule_start : NatKind → Word
rule_start nat.Plain = codes "ip nat inside source static"
rule_start nat.Tcp = codes "ip nat inside source static"
rule_start nat.Udp = codes "ip nat inside source static"
rule_start nat.Outer = codes "ip nat outside source static"

abbrev pub row_of : NatRule → NatKind → Row
row_of r k = (false, codes "ip" ∷ codes "nat" ∷ rule_side k ∷ codes "source" ∷ codes "static" ∷ rule_words r k)

abbrev pub rule_row : NatRule → Row
rule_row r = row_of r r.kind

-- ---- access lists

abbrev pub kind_word : Bool → Word
kind_word true = codes "extended"
kind_word false = codes "standard"

abbrev pub verb_word : Bool → Word
verb_word true = codes "permit"
verb_word false = codes "deny"

abbrev pub masked_words : Masked → Words
masked_words m = address_word m.value ∷ address_word m.wild ∷ []

abbrev pub proto_word : Option ℕ → Word
proto_word None = codes "ip"
proto_word (Some p) = decimal p

abbrev pub port_words : PortTest → Words
port_words ports.Any = []
port_words (ports.Eq ns) = codes "eq" ∷ map decimal ns
port_words (ports.Neq n) = codes "neq" ∷ decimal n ∷ []
port_words (ports.Gt n) = codes "gt" ∷ decimal n ∷ []
port_words (ports.Lt n) = codes "lt" ∷ decimal n ∷ []
port_words (ports.Range n m) = codes "range" ∷ decimal n ∷ decimal m ∷ []

abbrev pub icmp_words : IcmpTest → Words
icmp_words icmp.Any = []
icmp_words (icmp.Kind k) = decimal k ∷ []
icmp_words (icmp.Exact k c) = decimal k ∷ decimal c ∷ []

-- the names of the flags of a mask, each behind a sign
abbrev pub flag_names : List (ℕ × Word)
flag_names = (1, codes "fin") ∷ (2, codes "syn") ∷ (4, codes "rst") ∷ (8, codes "psh") ∷ (16, codes "ack") ∷ (32, codes "urg") ∷ []

abbrev pub flag_word : ℕ → ℕ → ℕ × Word → Words
flag_word sign mask f = if bit_and mask f.0 == 0 then [] else (sign ∷ f.1) ∷ []

abbrev pub mask_words : ℕ → ℕ → Words
mask_words sign mask = flat_map (flag_word sign mask) flag_names

abbrev pub flag_words : FlagTest → Words
flag_words flags.Any = []
flag_words (flags.AnyOf set clear) = codes "match-any" ∷ mask_words 43 set ++ mask_words 45 clear
flag_words (flags.AllOf set clear) = codes "match-all" ∷ mask_words 43 set ++ mask_words 45 clear

abbrev pub extended_words : Entry → Words
extended_words e = proto_word e.proto ∷ masked_words e.src ++ (port_words e.sport ++ (masked_words e.dst ++ (port_words e.dport ++ (icmp_words e.icmp ++ (flag_words e.flags)))))

abbrev pub entry_words : Bool → Entry → Words
entry_words true e = extended_words e
entry_words false e = masked_words e.src

abbrev pub entry_row : Bool → Entry → Row
entry_row extended e = (true, decimal e.sequence ∷ verb_word e.permit ∷ entry_words extended e)

abbrev pub list_row : AccessList → Row
list_row l = (false, codes "ip" ∷ codes "access-list" ∷ kind_word l.extended ∷ l.name ∷ [])

abbrev pub list_rows : AccessList → List Row
list_rows l = list_row l ∷ map (entry_row l.extended) l.entries

-- ---- configurations

abbrev pub host_row : Word → Row
host_row name = (false, codes "hostname" ∷ name ∷ [])

abbrev pub config_rows : Config → List Row
config_rows c = host_row c.hostname ∷ flat_map interface_rows c.interfaces ++ (map route_row c.routes ++ (map rule_row c.nat ++ (flat_map list_rows c.lists)))

abbrev pub printed : Config → List ℕ
printed c = flat_map spell (config_rows c)
