-- How the fields of a group are shown.
use Rattle.std.specs.Prelude.{ℕ, Bool, true, false, not, ◌+◌, ◌-◌, ◌/◌, ◌%◌, ◌^◌, ◌==◌, ◌&&◌, ◌||◌, List, [], ◌∷◌, ◌++◌, Option, Some, None, length, bit_and, codes, decimal, if◌then◌else◌}
use Rattle.std.specs.List.{find, list_any, list_all, flat_map, join_by, range_with_len}
use Rattle.std.specs.Str.{bytes_eq}
use Rattle.ios_words.specs.Names.{protocols}
use Rattle.report_text.specs.FieldText.{address_text, ternary_text}
use Rattle.report_groups.specs.declared.types.Flags.{Flags}
use Rattle.report_groups.specs.declared.types.Flags.TheVariants.{Established, NotEstablished, Matching}
use Rattle.report_groups.specs.declared.types.Part.{Part}
use Rattle.report_groups.specs.declared.types.Part.TheVariants.{Run, Masked}
use Rattle.report_groups.specs.declared.types.Pattern.{Pattern}
use Rattle.report_groups.specs.declared.types.Shown.{Shown}
use Rattle.report_groups.specs.declared.types.Span.{Span}
use Rattle.report_groups.specs.declared.types.Values.{Values}
use Rattle.view_core.specs.declared.fields.Kind.{Kind}
use Rattle.view_core.specs.declared.fields.Kind.TheVariants as kind
use Rattle.view_core.specs.declared.labels.Service.{Service}
use Rattle.view_core.specs.declared.labels.Service.TheVariants as service
use Rattle.view_core.specs.NumberNames.{name_of, tcp_names, udp_names, type_names, code_names}

-- ---- addresses

-- an octet of which all bits are fixed, or none
abbrev pub octet_text : ℕ → ℕ → List ℕ
octet_text fixed bits = if fixed == 0 then codes "*" else decimal bits

abbrev pub is_whole_octet : ℕ → Bool
is_whole_octet fixed = fixed == 0 || fixed == 255

abbrev pub has_whole_octets : ℕ → Bool
has_whole_octets fixed =
    is_whole_octet (fixed / 2 ^ 24)
    && is_whole_octet (fixed / 2 ^ 16 % 2 ^ 8)
    && is_whole_octet (fixed / 2 ^ 8 % 2 ^ 8)
    && is_whole_octet (fixed % 2 ^ 8)

-- octets with stars between them, as 10.0.*.5
unfoldable pub octets_text : Pattern → List ℕ
octets_text p =
    octet_text (p.fixed / 2 ^ 24) (p.bits / 2 ^ 24)
    ++ codes "." ++ octet_text (p.fixed / 2 ^ 16 % 2 ^ 8) (p.bits / 2 ^ 16 % 2 ^ 8)
    ++ codes "." ++ octet_text (p.fixed / 2 ^ 8 % 2 ^ 8) (p.bits / 2 ^ 8 % 2 ^ 8)
    ++ codes "." ++ octet_text (p.fixed % 2 ^ 8) (p.bits % 2 ^ 8)

-- an address and its wildcard, in which the open bits are 1
unfoldable pub wildcard_text : Pattern → List ℕ
wildcard_text p = address_text p.bits ++ codes " " ++ address_text (2 ^ 32 - 1 - p.fixed)

-- the span is the prefix of so many bits
abbrev pub is_prefix : Span → ℕ → Bool
is_prefix s n = s.low % 2 ^ (32 - n) == 0 && s.high == s.low + 2 ^ (32 - n) - 1

abbrev pub prefix_of : Span → Option ℕ
prefix_of s = find (is_prefix s) (range_with_len 0 32)

-- the first and the last of more than one
abbrev pub more_addresses : Option ℕ → Span → List ℕ
more_addresses (Some n) s = address_text s.low ++ codes "/" ++ decimal n
more_addresses None s = address_text s.low ++ codes " - " ++ address_text s.high

unfoldable pub addresses_text : Span → List ℕ
addresses_text s = if s.low == s.high then address_text s.low else more_addresses (prefix_of s) s

unfoldable pub masked_address_text : Pattern → List ℕ
masked_address_text p = if has_whole_octets p.fixed then octets_text p else wildcard_text p

abbrev pub address_part : Part → List ℕ
address_part (Run s) = addresses_text s
address_part (Masked p) = masked_address_text p

-- ---- numbers

-- a number, or the first and the last of more
unfoldable pub range_text : Span → List ℕ
range_text s = if s.low == s.high then decimal s.low else decimal s.low ++ codes " - " ++ decimal s.high

-- the name, or this text where there is none
abbrev pub name_or : Option (List ℕ) → List ℕ → List ℕ
name_or (Some name) text = name
name_or None text = text

unfoldable pub protocol_text : Span → List ℕ
protocol_text s = name_or (if s.low == s.high then name_of protocols s.low else None) (codes "proto " ++ range_text s)

abbrev pub protocol_part : Part → List ℕ
protocol_part (Run s) = protocol_text s
protocol_part (Masked p) = codes "proto " ++ ternary_text 8 p.fixed p.bits

-- ---- ports

-- the name of a port, behind its number
abbrev pub name_behind : Option (List ℕ) → List ℕ
name_behind (Some name) = codes " (" ++ name ++ codes ")"
name_behind None = []

-- the same name
abbrev pub option_same : Option (List ℕ) → Option (List ℕ) → Bool
option_same (Some a) (Some b) = bytes_eq a b
option_same _ _ = false

-- a port's name with this service; with both protocols it is that with TCP, where it is the same with UDP
abbrev pub port_name : Service → ℕ → Option (List ℕ)
port_name service.Unknown n = None
port_name service.Tcp n = name_of tcp_names n
port_name service.Udp n = name_of udp_names n
port_name service.Both n = if option_same (name_of tcp_names n) (name_of udp_names n) then name_of tcp_names n else None

unfoldable pub ports_text : Service → Span → List ℕ
ports_text service s = range_text s ++ name_behind (if s.low == s.high then port_name service s.low else None)

abbrev pub port_part : Service → Part → List ℕ
port_part service (Run s) = ports_text service s
port_part service (Masked p) = ternary_text 16 p.fixed p.bits

-- ---- ICMP messages: each is a number, its type times 256 plus its code

abbrev pub one_type : ℕ → List ℕ
one_type kind = name_or (name_of type_names kind) (codes "icmp type " ++ decimal kind)

abbrev pub one_message : ℕ → List ℕ
one_message n = name_or (name_of code_names n) (codes "icmp type " ++ decimal (n / 256) ++ codes " code " ++ decimal (n % 256))

-- messages from the first code of a type to the last code of another
abbrev pub some_types : Span → List ℕ
some_types s = codes "icmp types " ++ decimal (s.low / 256) ++ codes " - " ++ decimal (s.high / 256)

abbrev pub some_messages : Span → List ℕ
some_messages s = codes "icmp message " ++ decimal s.low ++ codes " - " ++ decimal s.high

unfoldable pub messages_text : Span → List ℕ
messages_text s =
    if s.low == s.high then one_message s.low
    else (if s.low % 256 == 0 && s.high % 256 == 255
    then (if s.low / 256 == s.high / 256 then one_type (s.low / 256) else some_types s)
    else some_messages s)

abbrev pub masked_messages : Pattern → List ℕ
masked_messages p = codes "icmp message " ++ ternary_text 16 p.fixed p.bits

abbrev pub message_part : Part → List ℕ
message_part (Run s) = messages_text s
message_part (Masked p) = masked_messages p

-- ---- flags

-- the flags of TCP, the highest bit first
abbrev pub flag_names : List (List ℕ × ℕ)
flag_names =
    (codes "bit7", 128)
    ∷ (codes "bit6", 64)
    ∷ (codes "urg", 32)
    ∷ (codes "ack", 16)
    ∷ (codes "psh", 8)
    ∷ (codes "rst", 4)
    ∷ (codes "syn", 2)
    ∷ (codes "fin", 1)
    ∷ []

-- a flag that is fixed: its name where it is set, and behind `no` where it isn't
abbrev pub flag_text : Pattern → List ℕ × ℕ → List ℕ
flag_text p f =
    if bit_and p.fixed f.1 == 0 then []
    else (if bit_and p.bits f.1 == 0 then codes " no " ++ f.0 else codes " " ++ f.0)

unfoldable pub pattern_flags : Pattern → List ℕ
pattern_flags p = flat_map (flag_text p) flag_names

abbrev pub is_open_pattern : Pattern → Bool
is_open_pattern p = p.fixed == 0 && p.bits == 0

unfoldable pub flags_text : Flags → List ℕ
flags_text Established = codes "  established"
flags_text NotEstablished = codes "  not established"
flags_text (Matching patterns) =
    if list_any is_open_pattern patterns then [] else codes "  flags" ++ join_by pattern_flags (codes ",") patterns

-- ---- a group

-- the part is all values of `width` bits
abbrev pub is_whole : ℕ → Part → Bool
is_whole width (Run s) = s.low == 0 && s.high == 2 ^ width - 1
is_whole width (Masked p) = false

-- some part is all values
abbrev pub is_open : ℕ → Values → Bool
is_open width values = not values.negated && list_any (is_whole width) values.parts

-- a part, by what the numbers of its field are
abbrev pub part_text : Kind → Part → List ℕ
part_text kind.Address part = address_part part
part_text kind.Protocol part = protocol_part part
part_text (kind.Port service) part = port_part service part
part_text kind.Message part = message_part part

-- how many bits the field has
abbrev pub width_of : Kind → ℕ
width_of kind.Address = 32
width_of kind.Protocol = 8
width_of (kind.Port service) = 16
width_of kind.Message = 16

-- the values of a field: its parts with commas between them, or behind `not`, with `nor` between them
unfoldable pub values_text : Kind → Values → List ℕ
values_text kind values =
    if values.negated then codes "not " ++ join_by (part_text kind) (codes " nor ") values.parts
    else join_by (part_text kind) (codes ", ") values.parts

-- a field behind its name; nothing where it is open
abbrev pub field_words : List ℕ → Kind → Values → List ℕ
field_words name kind values = if is_open (width_of kind) values then [] else name ++ values_text kind values

-- the part is this number alone
abbrev pub is_only : ℕ → Part → Bool
is_only n (Run s) = s.low == n && s.high == n
is_only n (Masked p) = false

-- whose names the ports have: those of TCP, of UDP, or of both where each protocol is one of these
abbrev pub service_with : Bool → Bool → Service
service_with true true = service.Both
service_with true false = service.Tcp
service_with false true = service.Udp
service_with false false = service.Unknown

abbrev pub is_served : Part → Bool
is_served p = is_only 6 p || is_only 17 p

abbrev pub service_of : Values → Service
service_of proto =
    if not proto.negated && list_all is_served proto.parts
    then service_with (list_any (is_only 6) proto.parts) (list_any (is_only 17) proto.parts)
    else service.Unknown

-- ICMP is the only protocol
abbrev pub is_icmp : Values → Bool
is_icmp proto = not proto.negated && length proto.parts == 1 && list_all (is_only 1) proto.parts

-- the source port, or the message where the protocol is ICMP
abbrev pub source_kind : Values → Kind
source_kind proto = if is_icmp proto then kind.Message else kind.Port (service_of proto)

abbrev pub source_words : Shown → List ℕ
source_words s = field_words (if is_icmp s.proto then codes "  " else codes "  sport ") (source_kind s.proto) s.sport

-- the fields that aren't open, each behind its name with two blanks before it
unfoldable pub open_words : Shown → List ℕ
open_words s =
    field_words (codes "  dst ") kind.Address s.dst
    ++ field_words (codes "  src ") kind.Address s.src
    ++ field_words (codes "  ") kind.Protocol s.proto
    ++ field_words (codes "  dport ") (kind.Port (service_of s.proto)) s.dport
    ++ source_words s
    ++ flags_text s.flags

-- the fields of a group, or that any header is in it
abbrev pub or_any : List ℕ → List ℕ
or_any [] = codes "  any header"
or_any (c ∷ text) = c ∷ text

unfoldable pub words_text : Shown → List ℕ
words_text s = or_any (open_words s)
