-- What documents of JSON are made of.
use Rattle.std.specs.Prelude.{ℕ, ◌+◌, ◌/◌, ◌%◌, ◌==◌, ◌||◌, List, [], ◌∷◌, ◌++◌, Option, Some, None, codes, decimal, nat_lt, if◌then◌else◌}
use Rattle.std.specs.List.{flat_map, join_by}
use Rattle.hdr_bits.specs.declared.cube.Cube.{Cube}
use Rattle.hdr_bits.specs.declared.header.Header.{Header}
use Rattle.hdr_bits.specs.HeaderBits.{header_of}
use Rattle.net_types.specs.declared.label.Outcome.{Outcome}
use Rattle.net_types.specs.declared.label.Outcome.TheVariants.{Dropped, Expired, Local, Exit}
use Rattle.net_types.specs.declared.network.Names.{Names}
use Rattle.net_types.specs.declared.network.Place.{Place}
use Rattle.net_types.specs.declared.network.Row.{Row}
use Rattle.report_text.specs.FieldText.{address_text, address_field_text, number_field_text}
use Rattle.report_text.specs.ReportText.{name_text}

-- ---- strings

-- a hexadecimal digit
abbrev pub hex_digit : ℕ → ℕ
hex_digit d = if nat_lt d 10 then 48 + d else 87 + d

-- A byte of a string: the quote and the backslash behind a backslash, and what is no printable character of ASCII by its number, so
-- that a byte is the character of that number
unfoldable pub string_byte : ℕ → List ℕ
string_byte b =
    if b == 34 || b == 92 then 92 ∷ b ∷ []
    else (if nat_lt b 32 || nat_lt 126 b then codes "\\u00" ++ hex_digit (b / 16) ∷ hex_digit (b % 16) ∷ [] else b ∷ [])

abbrev pub quote : List ℕ
quote = 34 ∷ []

unfoldable pub string_text : List ℕ → List ℕ
string_text text = quote ++ flat_map string_byte text ++ quote

-- the name of a member, and a member that is a string
abbrev pub key : List ℕ → List ℕ
key name = quote ++ name ++ quote ++ codes ": "

abbrev pub string_member : List ℕ → List ℕ → List ℕ
string_member name text = key name ++ string_text text

-- ---- outcomes

unfoldable pub place_members : Names → Place → List ℕ
place_members names p =
    string_member (codes "device") (name_text names p.device) ++ codes ", " ++ string_member (codes "interface") (name_text names p.interface)

-- a field that changed, behind a comma
abbrev pub address_change : List ℕ → Option ℕ → List ℕ
address_change name None = []
address_change name (Some value) = codes ", " ++ string_member name (address_text value)

abbrev pub port_change : List ℕ → Option ℕ → List ℕ
port_change name None = []
port_change name (Some value) = codes ", " ++ key name ++ decimal value

-- how the walk ended, and where; of a packet that left also what changed of its header
unfoldable pub outcome_members : Names → Outcome → List ℕ
outcome_members names Dropped = string_member (codes "end") (codes "drop")
outcome_members names Expired = string_member (codes "end") (codes "expired")
outcome_members names (Local p) = string_member (codes "end") (codes "local") ++ codes ", " ++ place_members names p
outcome_members names (Exit p src dst sport dport) =
    string_member (codes "end") (codes "exit") ++ codes ", " ++ place_members names p
    ++ address_change (codes "src") src
    ++ address_change (codes "dst") dst
    ++ port_change (codes "sport") sport
    ++ port_change (codes "dport") dport

abbrev pub outcome_text : Names → Outcome → List ℕ
outcome_text names o = codes "{" ++ outcome_members names o ++ codes "}"

abbrev pub outcomes_text : Names → List Outcome → List ℕ
outcomes_text names outcomes = codes "[" ++ join_by (outcome_text names) (codes ", ") outcomes ++ codes "]"

-- ---- rows: the fields of the cube as a report has them, and the outcomes in the two networks

unfoldable pub fields_members : Header → Header → List ℕ
fields_members fixed bits =
    string_member (codes "dst") (address_field_text fixed.dst bits.dst)
    ++ codes ", " ++ string_member (codes "src") (address_field_text fixed.src bits.src)
    ++ codes ", " ++ string_member (codes "proto") (number_field_text 8 fixed.proto bits.proto)
    ++ codes ", " ++ string_member (codes "dport") (number_field_text 16 fixed.dport bits.dport)
    ++ codes ", " ++ string_member (codes "sport") (number_field_text 16 fixed.sport bits.sport)
    ++ codes ", " ++ string_member (codes "flags") (number_field_text 8 fixed.flags bits.flags)

abbrev pub cube_members : Cube → List ℕ
cube_members c = fields_members (header_of c.fixed) (header_of c.bits)

unfoldable pub row_text : Names → Row → List ℕ
row_text names row =
    codes "{" ++ cube_members row.cube
    ++ codes ", " ++ key (codes "old") ++ outcomes_text names row.old
    ++ codes ", " ++ key (codes "new") ++ outcomes_text names row.new
    ++ codes "}"

-- ---- headers

-- the addresses and the protocol
unfoldable pub address_members : Header → List ℕ
address_members h =
    string_member (codes "dst") (address_text h.dst)
    ++ codes ", " ++ string_member (codes "src") (address_text h.src)
    ++ codes ", \"proto\": " ++ decimal h.proto

-- the ports and the flags
unfoldable pub port_members : Header → List ℕ
port_members h = codes ", \"dport\": " ++ decimal h.dport ++ codes ", \"sport\": " ++ decimal h.sport ++ codes ", \"flags\": " ++ decimal h.flags

-- the fields of a header
unfoldable pub header_members : Header → List ℕ
header_members h = address_members h ++ port_members h
