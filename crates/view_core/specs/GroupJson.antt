-- A group in a document of JSON.
use Rattle.std.specs.Prelude.{ℕ, List, [], ◌∷◌, ◌++◌, codes, decimal, drop, if◌then◌else◌}
use Rattle.std.specs.List.{join_by}
use Rattle.net_types.specs.declared.network.Names.{Names}
use Rattle.report_groups.specs.declared.types.Entry.{Entry}
use Rattle.report_groups.specs.declared.types.Group.{Group}
use Rattle.report_groups.specs.declared.types.Pattern.{Pattern}
use Rattle.report_groups.specs.declared.types.Shown.{Shown}
use Rattle.report_groups.specs.declared.types.Values.{Values}
use Rattle.report_groups.specs.Groups.{field_at}
use Rattle.report_text.specs.FieldText.{address_field_text, number_field_text}
use Rattle.view_core.specs.declared.fields.Kind.{Kind}
use Rattle.view_core.specs.declared.fields.Kind.TheVariants as kind
use Rattle.view_core.specs.FieldWords.{is_open, width_of, values_text, service_of, source_kind, flags_text, words_text}
use Rattle.view_core.specs.Groups.{change_words}
use Rattle.json_text.specs.Json.{key, string_text, string_member, outcomes_text}

-- ---- the fields in words

-- the words of a line without the two blanks before them
abbrev pub behind_blanks : List ℕ → List ℕ
behind_blanks text = drop 2 text

abbrev pub or_any_value : List ℕ → List ℕ
or_any_value [] = codes "any"
or_any_value (c ∷ text) = c ∷ text

-- a field's values, or that all are meant
abbrev pub value_words : Kind → Values → List ℕ
value_words kind values = if is_open (width_of kind) values then codes "any" else values_text kind values

unfoldable pub address_values : Shown → List ℕ
address_values s =
    string_member (codes "dst") (value_words kind.Address s.dst)
    ++ codes ", " ++ string_member (codes "src") (value_words kind.Address s.src)
    ++ codes ", " ++ string_member (codes "proto") (value_words kind.Protocol s.proto)

unfoldable pub port_values : Shown → List ℕ
port_values s =
    string_member (codes "dport") (value_words (kind.Port (service_of s.proto)) s.dport)
    ++ codes ", " ++ string_member (codes "sport") (value_words (source_kind s.proto) s.sport)
    ++ codes ", " ++ string_member (codes "flags") (or_any_value (behind_blanks (flags_text s.flags)))

abbrev pub values_object : Shown → List ℕ
values_object s = codes "{" ++ address_values s ++ codes ", " ++ port_values s ++ codes "}"

-- ---- the fields by their patterns, as a row of a report has a field

abbrev pub address_pattern : Pattern → List ℕ
address_pattern p = string_text (address_field_text p.fixed p.bits)

abbrev pub number_pattern : ℕ → Pattern → List ℕ
number_pattern width p = string_text (number_field_text width p.fixed p.bits)

unfoldable pub address_member : List ℕ → List Pattern → List ℕ
address_member name patterns = key name ++ codes "[" ++ join_by address_pattern (codes ", ") patterns ++ codes "]"

unfoldable pub number_member : List ℕ → ℕ → List Pattern → List ℕ
number_member name width patterns = key name ++ codes "[" ++ join_by (number_pattern width) (codes ", ") patterns ++ codes "]"

unfoldable pub address_fields : Group → List ℕ
address_fields g =
    address_member (codes "dst") (field_at 0 g)
    ++ codes ", " ++ address_member (codes "src") (field_at 1 g)
    ++ codes ", " ++ number_member (codes "proto") 8 (field_at 2 g)

unfoldable pub port_fields : Group → List ℕ
port_fields g =
    number_member (codes "dport") 16 (field_at 3 g)
    ++ codes ", " ++ number_member (codes "sport") 16 (field_at 4 g)
    ++ codes ", " ++ number_member (codes "flags") 8 (field_at 5 g)

abbrev pub fields_object : Group → List ℕ
fields_object g = codes "{" ++ address_fields g ++ codes ", " ++ port_fields g ++ codes "}"

-- ---- a group: its kind, its rows, its headers in words and as patterns, and its outcomes in the two networks

unfoldable pub group_head : Entry → List ℕ
group_head e =
    string_member (codes "kind") (change_words e.change)
    ++ codes ", \"rows\": " ++ decimal e.rows
    ++ codes ", " ++ string_member (codes "words") (behind_blanks (words_text e.shown))

unfoldable pub group_values : Entry → List ℕ
group_values e = codes ", \"values\": " ++ values_object e.shown ++ codes ", \"fields\": " ++ fields_object e.group

unfoldable pub group_outcomes : Names → Entry → List ℕ
group_outcomes names e =
    codes ", \"old\": " ++ outcomes_text names e.group.old ++ codes ", \"new\": " ++ outcomes_text names e.group.new

unfoldable pub group_object : Names → Entry → List ℕ
group_object names e = codes "{" ++ group_head e ++ group_values e ++ group_outcomes names e ++ codes "}"
