-- An audit of a folder's lists: what is written of it, and which entries it may name.
use Rattle.std.specs.Prelude.{ℕ, Bool, true, false, not, ◌==◌, List, [], ◌∷◌, Option, is_some, map, find, position}
use Rattle.std.specs.List.{flat_map}
use Rattle.result_text.specs.AuditText.{Findings}
use Rattle.audit_view.specs.declared.audited.AuditedList.{AuditedList}
use Rattle.audit_view.specs.declared.findings.Finding.{Finding}
use Rattle.audit_view.specs.declared.findings.Taken.{Taken}
use Rattle.audit_view.specs.declared.lists.FolderList.{FolderList}
use Rattle.audit_view.specs.declared.lists.ListEntry.{ListEntry}
use Rattle.audit_view.specs.declared.said.Kind.{Kind}
use Rattle.audit_view.specs.declared.said.Kind.TheVariants as kind

-- each list with the findings at its position
abbrev pub with_findings : List FolderList → List (List Finding) → List AuditedList
with_findings [] said = []
with_findings (l ∷ ls) [] = record { list = l; findings = [] } ∷ with_findings ls []
with_findings (l ∷ ls) (fs ∷ said) = record { list = l; findings = fs } ∷ with_findings ls said

-- ---- how `rollout audit` writes it

abbrev pub is_dead_kind : Kind → Bool
is_dead_kind kind.Dead = true
is_dead_kind kind.Redundant = false

abbrev pub is_dead : Finding → Bool
is_dead f = is_dead_kind f.kind

-- a row is written as it was read
abbrev pub audited_lists : Findings AuditedList Finding Taken (List ℕ)
audited_lists = record {
  file = λ a. a.list.file;
  name = λ a. a.list.name;
  findings = λ a. a.findings;
  sequence = λ f. f.sequence;
  is_dead = is_dead;
  taken = λ f. f.taken;
  by = λ t. t.sequence;
  rows = λ t. t.rows;
  row = λ row. row;
}

-- ---- entries

abbrev pub has_sequence : ℕ → ListEntry → Bool
has_sequence n e = e.sequence == n

-- the entry of this sequence number
abbrev pub entry_of : FolderList → ℕ → Option ListEntry
entry_of l n = find (has_sequence n) l.entries

abbrev pub is_known : FolderList → ℕ → Bool
is_known l n = is_some (entry_of l n)

-- for each line of an audit whether the entry that it names is one of its list; lines that name none are right
abbrev pub taken_marks : FolderList → Taken → List Bool
taken_marks l t = is_known l t.sequence ∷ map (λ row. true) t.rows

abbrev pub finding_marks : FolderList → Finding → List Bool
finding_marks l f = is_known l f.sequence ∷ flat_map (taken_marks l) f.taken

abbrev pub list_marks : AuditedList → List Bool
list_marks a = true ∷ flat_map (finding_marks a.list) a.findings

abbrev pub marks : List AuditedList → List Bool
marks audited = flat_map list_marks audited

-- the first line that names another entry
abbrev pub first_unknown : List AuditedList → Option ℕ
first_unknown audited = position not (marks audited)
