-- An audit as text for a person.
use Rattle.std.specs.Prelude.{ℕ, ◌==◌, Bool, List, [], ◌++◌, Option, Some, None, length, codes, decimal, if◌then◌else◌}
use Rattle.std.specs.List.{flat_map}
use Rattle.audit_view.specs.declared.audited.AuditedList.{AuditedList}
use Rattle.audit_view.specs.declared.findings.Finding.{Finding}
use Rattle.audit_view.specs.declared.findings.Taken.{Taken}
use Rattle.audit_view.specs.declared.groups.Group.TheVariants as group
use Rattle.audit_view.specs.declared.lists.FolderList.{FolderList}
use Rattle.audit_view.specs.declared.lists.ListEntry.{ListEntry}
use Rattle.result_text.specs.AuditText.{kind_name}
use Rattle.audit_view.specs.Audited.{is_dead, entry_of}
use Rattle.audit_view.specs.Shown.{is_in, count_in, total, has_findings, lists_with_findings}

-- ---- entries

-- the place of an entry's line, and the line; one that isn't there has neither
abbrev pub line_text : Option ListEntry → List ℕ
line_text None = []
line_text (Some e) = decimal e.line

abbrev pub own_text : Option ListEntry → List ℕ
own_text None = []
own_text (Some e) = e.text

-- those of the entry of this sequence number
unfoldable pub line_of : FolderList → ℕ → List ℕ
line_of l n = line_text (entry_of l n)

unfoldable pub text_of : FolderList → ℕ → List ℕ
text_of l n = own_text (entry_of l n)

-- ---- the summary

-- how many lists there are, and how many findings
unfoldable pub lists_text : List AuditedList → List ℕ
lists_text audited = codes "lists " ++ decimal (length audited) ++ codes ", with findings " ++ decimal (lists_with_findings audited)

unfoldable pub kinds_text : ℕ → ℕ → List ℕ
kinds_text dead redundant = codes ": dead " ++ decimal dead ++ codes ", redundant " ++ decimal redundant

unfoldable pub head_text : List AuditedList → List ℕ
head_text audited =
    lists_text audited ++ kinds_text (total group.Dead audited) (total group.Redundant audited)
    ++ codes "; closing denials " ++ decimal (total group.Closing audited) ++ codes "\n"

-- a list, by the name of its file and its own
unfoldable pub name_text : FolderList → List ℕ
name_text l = l.file ++ codes " " ++ l.name

-- the findings of a list
unfoldable pub counts_text : AuditedList → List ℕ
counts_text a = codes "  " ++ name_text a.list ++ kinds_text (count_in group.Dead a) (count_in group.Redundant a) ++ codes "\n"

abbrev pub summary_line : AuditedList → List ℕ
summary_line a = if has_findings a then counts_text a else []

-- ---- findings

-- the headers of a row
abbrev pub row_line : List ℕ → List ℕ
row_line row = codes "      " ++ row ++ codes "\n"

unfoldable pub row_lines : Bool → List (List ℕ) → List ℕ
row_lines rows texts = if rows then flat_map row_line texts else []

-- an earlier entry that takes packets, and where they are asked for these
unfoldable pub taken_text : Bool → FolderList → Taken → List ℕ
taken_text rows l t =
    codes "    by line " ++ line_of l t.sequence ++ codes ", rows " ++ decimal (length t.rows)
    ++ codes ": " ++ text_of l t.sequence ++ codes "\n"
    ++ row_lines rows t.rows

-- a finding: the entry's own line, and what takes its packets
unfoldable pub finding_text : Bool → FolderList → Finding → List ℕ
finding_text rows l f =
    codes "  line " ++ line_of l f.sequence ++ codes " " ++ kind_name (is_dead f)
    ++ codes ": " ++ text_of l f.sequence ++ codes "\n"
    ++ flat_map (taken_text rows l) f.taken

-- a closing denial stands apart
abbrev pub open_text : Bool → FolderList → Finding → List ℕ
open_text rows l f = if is_in group.Closing l f then [] else finding_text rows l f

unfoldable pub list_text : Bool → AuditedList → List ℕ
list_text rows a = codes "\n" ++ name_text a.list ++ codes "\n" ++ flat_map (open_text rows a.list) a.findings

-- a list that has findings
abbrev pub list_part : Bool → AuditedList → List ℕ
list_part rows a = if has_findings a then list_text rows a else []

-- ---- closing denials

unfoldable pub denial_text : FolderList → Finding → List ℕ
denial_text l f = codes "  " ++ l.file ++ codes " line " ++ line_of l f.sequence ++ codes ": " ++ text_of l f.sequence ++ codes "\n"

abbrev pub closing_text : FolderList → Finding → List ℕ
closing_text l f = if is_in group.Closing l f then denial_text l f else []

abbrev pub closings_in : AuditedList → List ℕ
closings_in a = flat_map (closing_text a.list) a.findings

-- all of them, behind a line of their own
abbrev pub or_nothing : List ℕ → List ℕ
or_nothing text = if length text == 0 then [] else codes "\nclosing denials\n" ++ text

-- ---- the whole

unfoldable pub view_text : Bool → List AuditedList → List ℕ
view_text rows audited =
    head_text audited ++ flat_map summary_line audited ++ flat_map (list_part rows) audited ++ or_nothing (flat_map closings_in audited)
