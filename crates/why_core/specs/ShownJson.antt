-- Explanations and traces in documents of JSON.
use Rattle.std.specs.Prelude.{ℕ, List, ◌++◌, filter, length, codes, decimal}
use Rattle.std.specs.List.{join_by}
use Rattle.hdr_bits.specs.declared.header.Header.{Header}
use Rattle.net_text.specs.Lines.{is_line_end}
use Rattle.net_text.specs.Texts.{is_word}
use Rattle.net_types.specs.declared.network.Names.{Names}
use Rattle.walk_trace.specs.declared.types.Trace.{Trace}
use Rattle.walk_trace.specs.TraceText.{trace_text}
use Rattle.trace_sides.specs.Sides.{first_text, shared}
use Rattle.view_core.specs.Groups.{group_words}
use Rattle.json_text.specs.Json.{header_members, key, place_members, string_member, string_text}
use Rattle.view_core.specs.Names.{text_lines}
use Rattle.why_core.specs.Cases.{Case}
use Rattle.why_core.specs.Words.{Traces}

-- ---- traces

-- the lines of a text that have a byte: behind the last LF there is none
abbrev pub told_lines : List ℕ → List (List ℕ)
told_lines text = filter is_word (text_lines text)

unfoldable pub lines_json : List ℕ → List ℕ
lines_json text = codes "[" ++ join_by string_text (codes ", ") (told_lines text) ++ codes "]"

-- how many lines a text has, each of which ends with LF
abbrev pub line_count : List ℕ → ℕ
line_count text = length (filter is_line_end text)

-- with how many lines both traces begin, and the lines of each
unfoldable pub sides_members : Names → Trace → Trace → List ℕ
sides_members names old new =
    key (codes "parts") ++ decimal (line_count (first_text names (shared names old new) old))
    ++ codes ", " ++ key (codes "old") ++ lines_json (trace_text names old)
    ++ codes ", " ++ key (codes "new") ++ lines_json (trace_text names new)

-- a packet, and its traces
unfoldable pub packet_members : Names → Header → Trace → Trace → List ℕ
packet_members names h old new =
    key (codes "packet") ++ codes "{" ++ header_members h ++ codes "},\n" ++ sides_members names old new

-- where the packet enters
unfoldable pub entry_members : List ℕ → List ℕ → List ℕ
entry_members device interface = string_member (codes "device") device ++ codes ", " ++ string_member (codes "interface") interface

-- the schema with its version
unfoldable pub traces_schema : List ℕ
traces_schema = codes "{\"schema\": \"diqenyu-traces\", \"version\": 1, "

-- that, and where the packet enters
unfoldable pub traces_front : List ℕ → List ℕ → List ℕ
traces_front device interface = traces_schema ++ entry_members device interface ++ codes ", "

unfoldable pub traces_json : Names → Traces → Trace → Trace → List ℕ
traces_json names w old new = traces_front w.device w.interface ++ packet_members names w.header old new ++ codes "}\n"

-- ---- explanations

-- the ingress of a group and its words, its packet, and the packet's traces
unfoldable pub told_json : Names → Names → Case → Header → Trace → Trace → List ℕ
told_json report names c h old new =
    codes "{" ++ place_members report c.section.place ++ codes ", " ++ string_member (codes "group") (group_words report c.entry)
    ++ codes ", " ++ packet_members names h old new ++ codes "}"

-- the schema with its version, how many groups there are, and how many are explained
unfoldable pub why_front : ℕ → ℕ → List ℕ
why_front groups explained =
    codes "{\"schema\": \"diqenyu-why\", \"version\": 1, \"groups\": " ++ decimal groups
    ++ codes ", \"explained\": " ++ decimal explained ++ codes ",\n\"explanations\": ["
