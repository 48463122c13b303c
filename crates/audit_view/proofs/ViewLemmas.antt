-- Texts that are audits, and those that aren't.
use Rattle.std.proofs.Common.{◌≡◌, ℕ, false, List, [], Option, Some, None, Ok, Err, refl, ap, ◌∙◌, subst, reverse}
use Rattle.job_core.specs.declared.report.Report.{Report}
use Rattle.job_core.specs.declared.stop.Stop.TheVariants as stop
use Rattle.view_core.specs.Names.{text_lines}
use Rattle.audit_view.specs.declared.audited.AuditedList.{AuditedList}
use Rattle.audit_view.specs.declared.findings.Finding.{Finding}
use Rattle.audit_view.specs.declared.lists.FolderList.{FolderList}
use Rattle.audit_view.specs.declared.words.Manner.{Manner}
use Rattle.audit_view.specs.Audited.{with_findings}
use Rattle.audit_view.specs.Said.{said_in}
use Rattle.audit_view.specs.Views.{IsFault, IsView, audited_by, Views}

pub audited_is : (lists : List FolderList) (bytes : List ℕ) (audited : List AuditedList) (found : List (List Finding)) (lines : List (List ℕ))
    → audited ≡ with_findings lists (reverse found) → found ≡ said_in lines → lines ≡ text_lines bytes → audited ≡ audited_by lists bytes
audited_is lists bytes audited found lines a f l = a ∙ ap (λ fs. with_findings lists (reverse fs)) (f ∙ ap said_in l)

pub refused_views : (m : Manner) (path bytes : List ℕ) (lists : List FolderList) (audited : List AuditedList) (o : Option ℕ) (line : ℕ) (kind word : List ℕ)
    → audited ≡ audited_by lists bytes → IsFault audited bytes o → o ≡ Some line → kind ≡ [] → word ≡ [] → Views m path bytes lists (Err (stop.Refused path line kind word))
refused_views m path bytes lists audited o line kind word same fault some none silent =
    (refl, subst (λ (a : List AuditedList). IsFault a bytes (Some line)) same (subst (λ (p : Option ℕ). IsFault audited bytes p) some fault), none, silent)

pub shown_views : (m : Manner) (path bytes : List ℕ) (lists : List FolderList) (audited : List AuditedList) (o : Option ℕ) (r : Report)
    → audited ≡ audited_by lists bytes → IsFault audited bytes o → o ≡ None → IsView m audited r.text.items → r.affected ≡ false → Views m path bytes lists (Ok r)
shown_views m path bytes lists audited o r same fault none shown plain = (
  subst (λ (a : List AuditedList). IsFault a bytes None) same (subst (λ (p : Option ℕ). IsFault audited bytes p) none fault),
  subst (λ (a : List AuditedList). IsView m a r.text.items) same shown,
  plain,
)
