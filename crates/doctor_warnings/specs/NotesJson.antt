-- Notes as one document of JSON.
use Rattle.std.specs.Prelude.{ℕ, ◌==◌, List, [], ◌++◌, codes, decimal, if◌then◌else◌}
use Rattle.std.specs.List.{join_by}
use Rattle.json_text.specs.Json.{string_member}
use Rattle.doctor_warnings.specs.declared.limit.Limit.{Limit}
use Rattle.doctor_warnings.specs.declared.limit.LimitKind.{LimitKind}
use Rattle.doctor_warnings.specs.declared.limit.LimitKind.TheVariants as limit
use Rattle.doctor_warnings.specs.declared.listing.ListedLine.{ListedLine}
use Rattle.doctor_warnings.specs.declared.network.Notes.{Notes}
use Rattle.doctor_warnings.specs.declared.warning.Warning.{Warning}
use Rattle.doctor_warnings.specs.declared.warning.Warning.TheVariants as warning
use Rattle.doctor_warnings.specs.Texts.{kind_text, says_text, warned_line, warned_path}

-- a line's number, where a line is meant and not the whole file
abbrev pub line_member : ℕ → List ℕ
line_member line = if line == 0 then [] else codes ", \"line\": " ++ decimal line

abbrev pub place_members : List ℕ → ℕ → List ℕ
place_members path line = string_member (codes "file") path ++ line_member line

-- what a warning is about
abbrev pub warned_kind : Warning → List ℕ
warned_kind (warning.NoConfigs folder) = codes "no configurations"
warned_kind (warning.Unread path) = codes "not read"
warned_kind (warning.OneFolder path) = codes "in one folder"
warned_kind (warning.HostTaken path first) = codes "hostname taken"
warned_kind (warning.Refused path line kind word text) = codes "refused"
warned_kind (warning.Passed path line r text) = codes "passed over"
warned_kind (warning.Config path f) = codes "configuration"
warned_kind (warning.Place path two f) = codes "place"
warned_kind (warning.Stray path two s) = codes "next hop"

-- a warning: its file and line, what it is about, and what it says
unfoldable pub warning_json : Warning → List ℕ
warning_json w =
    codes "{" ++ place_members (warned_path w) (warned_line w) ++ codes ", " ++ string_member (codes "kind") (warned_kind w)
    ++ codes ", " ++ string_member (codes "says") (says_text w) ++ codes "}"

abbrev pub kind_name : LimitKind → List ℕ
kind_name limit.Ethernet = codes "ethernet"
kind_name limit.Prepared = codes "prepared"
kind_name limit.Idle = codes "idle"
kind_name limit.Refused = codes "refused"

-- where a network meets a limit of the model: the place, the limit in a few words, its kind and what becomes of it
unfoldable pub limit_json : Limit → List ℕ
limit_json l =
    codes "{" ++ place_members l.path l.line ++ codes ", " ++ string_member (codes "words") l.words
    ++ codes ", " ++ string_member (codes "kind") (kind_name l.kind) ++ codes ", " ++ string_member (codes "says") (kind_text l.kind) ++ codes "}"

-- a line that is passed over, by its first words and as it stands
unfoldable pub line_json : ListedLine → List ℕ
line_json l =
    codes "{" ++ place_members l.path l.line ++ codes ", " ++ string_member (codes "words") l.words
    ++ codes ", " ++ string_member (codes "text") l.text ++ codes "}"

-- ---- the document

unfoldable pub warnings_part : List Warning → List ℕ
warnings_part ws = codes "{\"schema\": \"diqenyu-doctor\", \"version\": 1,\n\"warnings\": [" ++ join_by warning_json (codes ",\n") ws

unfoldable pub limits_part : List Limit → List ℕ
limits_part ls = codes "],\n\"limits\": [" ++ join_by limit_json (codes ",\n") ls

unfoldable pub lines_part : List ListedLine → List ℕ
lines_part ls = codes "],\n\"lines\": [" ++ join_by line_json (codes ",\n") ls

-- the warnings, the limits, and where all are asked for the lines that are passed over
abbrev pub notes_json : Notes → List ℕ
notes_json n = warnings_part n.warnings ++ limits_part n.limits ++ lines_part n.lines ++ codes "]}\n"
