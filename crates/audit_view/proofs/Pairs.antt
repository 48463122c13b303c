-- Lists that are paired with their findings, from the last to the first.
use Rattle.std.proofs.Common.{◌≡◌, List, [], ◌∷◌, ◌++◌, sym, ap, ◌∙◌, append_assoc, append-nil, reverse}
use Rattle.std.proofs.lemmas.List.{reverse-append}
use Rattle.audit_view.specs.declared.audited.AuditedList.{AuditedList}
use Rattle.audit_view.specs.declared.findings.Finding.{Finding}
use Rattle.audit_view.specs.declared.lists.FolderList.{FolderList}
use Rattle.audit_view.specs.Audited.{with_findings}

-- what is paired so far, and what the rest will be, are all
abbrev pub ArePaired : List AuditedList → List FolderList → List (List Finding) → List AuditedList → Type 0
ArePaired done lists said all = done ++ with_findings (reverse lists) (reverse said) ≡ all

-- one list more, with its findings
pub pair_some : (done now all : List AuditedList) (lists rest : List FolderList) (said more : List (List Finding)) (l : FolderList) (fs : List Finding)
    → lists ≡ rest ++ l ∷ [] → said ≡ more ++ fs ∷ [] → now ≡ done ++ record { list = l; findings = fs } ∷ []
    → ArePaired done lists said all → ArePaired now rest more all
pair_some done now all lists rest said more l fs p q n h =
    ap (λ x. x ++ with_findings (reverse rest) (reverse more)) n
    ∙ append_assoc done (record { list = l; findings = fs } ∷ []) (with_findings (reverse rest) (reverse more))
    ∙ sym ((λ i. done ++ with_findings ((ap reverse p ∙ reverse-append rest (l ∷ [])) i) ((ap reverse q ∙ reverse-append more (fs ∷ [])) i)))
    ∙ h

-- the same, where none are left
pub pair_none : (done now all : List AuditedList) (lists rest : List FolderList) (said : List (List Finding)) (l : FolderList)
    → lists ≡ rest ++ l ∷ [] → said ≡ [] → now ≡ done ++ record { list = l; findings = [] } ∷ []
    → ArePaired done lists said all → ArePaired now rest said all
pair_none done now all lists rest said l p q n h =
    ap (λ x. x ++ with_findings (reverse rest) (reverse said)) n
    ∙ append_assoc done (record { list = l; findings = [] } ∷ []) (with_findings (reverse rest) (reverse said))
    ∙ ap (λ s. done ++ (record { list = l; findings = [] } ∷ with_findings (reverse rest) (reverse s))) q
    ∙ sym ((λ i. done ++ with_findings ((ap reverse p ∙ reverse-append rest (l ∷ [])) i) (reverse (q i))))
    ∙ h

-- where no list is left, all are paired
pub all_paired : (done all : List AuditedList) (lists : List FolderList) (said : List (List Finding)) → lists ≡ [] → ArePaired done lists said all → done ≡ all
all_paired done all lists said e h = sym (append-nil done) ∙ sym (ap (λ ls. done ++ with_findings (reverse ls) (reverse said)) e) ∙ h
