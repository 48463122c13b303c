-- What is shown of an audit: its findings, and apart from them the closing denials.
use Rattle.std.specs.Prelude.{ℕ, Bool, true, false, not, ◌==◌, List, Option, Some, None, filter, length, if◌then◌else◌}
use Rattle.std.specs.List.{sum_by, list_any}
use Rattle.audit_view.specs.declared.audited.AuditedList.{AuditedList}
use Rattle.audit_view.specs.declared.findings.Finding.{Finding}
use Rattle.audit_view.specs.declared.groups.Group.{Group}
use Rattle.audit_view.specs.declared.groups.Group.TheVariants as group
use Rattle.audit_view.specs.declared.lists.FolderList.{FolderList}
use Rattle.audit_view.specs.declared.said.Kind.{Kind}
use Rattle.audit_view.specs.declared.said.Kind.TheVariants as kind

-- this is the sequence number
abbrev pub is_this : Option ℕ → ℕ → Bool
is_this None n = false
is_this (Some m) n = m == n

abbrev pub group_by : Kind → Group
group_by kind.Dead = group.Dead
group_by kind.Redundant = group.Redundant

-- what a finding is; a closing denial is the list's last entry, and denies everything, as the end of the list does
abbrev pub group_of : FolderList → Finding → Group
group_of l f = if is_this l.closing f.sequence then group.Closing else group_by f.kind

abbrev pub same_group : Group → Group → Bool
same_group group.Dead group.Dead = true
same_group group.Redundant group.Redundant = true
same_group group.Closing group.Closing = true
same_group _ _ = false

-- the finding is one of these
abbrev pub is_in : Group → FolderList → Finding → Bool
is_in g l f = same_group g (group_of l f)

-- how many of these a list has, and how many all lists have
unfoldable pub count_in : Group → AuditedList → ℕ
count_in g a = length (filter (is_in g a.list) a.findings)

abbrev pub total : Group → List AuditedList → ℕ
total g audited = sum_by (count_in g) audited

-- the list has findings beside a closing denial
unfoldable pub has_findings : AuditedList → Bool
has_findings a = list_any (λ f. not (is_in group.Closing a.list f)) a.findings

abbrev pub lists_with_findings : List AuditedList → ℕ
lists_with_findings audited = length (filter has_findings audited)
