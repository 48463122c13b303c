-- An audit as one document of JSON.
use Rattle.std.specs.Prelude.{ℕ, Bool, true, false, List, [], ◌++◌, length, codes, decimal, if◌then◌else◌}
use Rattle.std.specs.List.{join_by}
use Rattle.json_text.specs.Json.{string_text, string_member}
use Rattle.audit_view.specs.declared.audited.AuditedList.{AuditedList}
use Rattle.audit_view.specs.declared.findings.Finding.{Finding}
use Rattle.audit_view.specs.declared.findings.Taken.{Taken}
use Rattle.audit_view.specs.declared.groups.Group.TheVariants as group
use Rattle.audit_view.specs.declared.lists.FolderList.{FolderList}
use Rattle.result_text.specs.AuditText.{kind_name}
use Rattle.audit_view.specs.Audited.{is_dead}
use Rattle.audit_view.specs.Shown.{is_in, count_in, total}
use Rattle.audit_view.specs.ShownText.{line_of, text_of}

abbrev pub bool_text : Bool → List ℕ
bool_text true = codes "true"
bool_text false = codes "false"

-- an entry of a list, and its line
unfoldable pub entry_members : FolderList → ℕ → List ℕ
entry_members l n =
    codes "\"sequence\": " ++ decimal n ++ codes ", \"line\": " ++ line_of l n ++ codes ", " ++ string_member (codes "text") (text_of l n)

-- the headers of the rows, where they are asked for
unfoldable pub rows_member : Bool → List (List ℕ) → List ℕ
rows_member rows texts = if rows then codes ", \"headers\": [" ++ join_by string_text (codes ", ") texts ++ codes "]" else []

-- an earlier entry that takes packets of another
unfoldable pub taken_json : Bool → FolderList → Taken → List ℕ
taken_json rows l t = codes "{" ++ entry_members l t.sequence ++ codes ", \"rows\": " ++ decimal (length t.rows) ++ rows_member rows t.rows ++ codes "}"

-- how many findings there are of each kind
unfoldable pub counts_json : ℕ → ℕ → ℕ → List ℕ
counts_json dead redundant closing =
    codes "\"dead\": " ++ decimal dead ++ codes ", \"redundant\": " ++ decimal redundant ++ codes ", \"closing\": " ++ decimal closing

-- a finding
unfoldable pub finding_json : Bool → FolderList → Finding → List ℕ
finding_json rows l f =
    codes "{" ++ entry_members l f.sequence ++ codes ", " ++ string_member (codes "kind") (kind_name (is_dead f))
    ++ codes ", \"closing\": " ++ bool_text (is_in group.Closing l f)
    ++ codes ", \"by\": [" ++ join_by (taken_json rows l) (codes ", ") f.taken ++ codes "]}"

-- a list with all its findings
unfoldable pub list_json : Bool → AuditedList → List ℕ
list_json rows a =
    codes "{" ++ string_member (codes "file") a.list.file ++ codes ", " ++ string_member (codes "list") a.list.name
    ++ codes ", " ++ counts_json (count_in group.Dead a) (count_in group.Redundant a) (count_in group.Closing a)
    ++ codes ", \"findings\": [" ++ join_by (finding_json rows a.list) (codes ",\n") a.findings ++ codes "]}"

-- the lists in their order, and how many findings there are
unfoldable pub audit_json : Bool → List AuditedList → List ℕ
audit_json rows audited =
    codes "{\"schema\": \"diqenyu-audit\", \"version\": 1, "
    ++ counts_json (total group.Dead audited) (total group.Redundant audited) (total group.Closing audited)
    ++ codes ",\n\"lists\": [" ++ join_by (list_json rows) (codes ",\n") audited ++ codes "]}\n"
