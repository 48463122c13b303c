-- The audit of a network: what is written, over what the files tell alone.
use Rattle.std.specs.Prelude.{◌≡◌, ℕ, ◌+◌, List, ◌++◌, Option, None, Some, Result, All, map, nat_lt, length}
use Rattle.std.specs.List.{flat_map}
use Rattle.net_types.specs.declared.config.AccessList.{AccessList}
use Rattle.net_types.specs.declared.config.Loaded.{Loaded}
use Rattle.net_io.specs.Files.{Told}
use Rattle.acl_audit.specs.Findings.{AreFindings}
use Rattle.job_core.specs.declared.report.Report.{Report}
use Rattle.job_core.specs.declared.stop.Stop.{Stop}
use Rattle.job_core.specs.Steps.{Then, OrNoMemory}
use Rattle.job_inputs.specs.Folders.{GivesFolder, AcceptedFolder}
use Rattle.result_text.specs.AuditText.{list_text, finding_count, audit_text}
use Rattle.audit_core.specs.AuditText.{Audited, audited_lists}
use Rattle.audit_core.specs.Words.{net_of}

-- the lists of a configuration with its file, in their order
abbrev pub lists_in : Loaded → List (List ℕ × AccessList)
lists_in d = map (λ l. (d.file, l)) d.config.lists

-- those of all configurations, in the order of the files
abbrev pub lists_of : List Loaded → List (List ℕ × AccessList)
lists_of devices = flat_map lists_in devices

abbrev pub named : Audited → List ℕ × AccessList
named a = (a.file, a.list)

-- its findings are exactly those of all its entries
abbrev pub IsRight : Audited → Type 0
IsRight a = AreFindings a.list.entries (length a.list.entries) a.findings

-- each list with its findings, and whether there is one
pub record IsAudit (devices : List Loaded) (r : Report) : Type 0 where
  pub audited : List Audited
  pub every : map named audited ≡ lists_of devices
  pub right : All IsRight audited
  pub text : r.text.items ≡ audit_text audited_lists audited
  pub affected : r.affected ≡ nat_lt 0 (finding_count audited_lists audited)

-- behind an old text the lists with their findings, which are counted on
pub record Appends (lists : List (List ℕ × AccessList)) (old new : List ℕ) (before now : ℕ) : Type 0 where
  pub audited : List Audited
  pub every : map named audited ≡ lists
  pub right : All IsRight audited
  pub text : new ≡ old ++ flat_map (list_text audited_lists) audited
  pub count : now ≡ before + finding_count audited_lists audited

-- the folder, and then the audit
abbrev pub Audits : Told → List ℕ → Result Report Stop → Type 0
Audits t net = Then (GivesFolder (λ devices. devices) t net) (λ devices. OrNoMemory (IsAudit devices))

abbrev pub Performs : Option (List ℕ) → Told → Result Report Stop → Type 0
Performs None t result = ⊥
Performs (Some net) t result = Audits t net result

-- what the words ask, done
abbrev pub Does : List (List ℕ) → Told → Result Report Stop → Type 0
Does words t result = Performs (net_of words) t result

-- the words are within the usage, and the folder is loaded
abbrev pub AcceptedNet : Option (List ℕ) → Told → Type 0
AcceptedNet None t = ⊥
AcceptedNet (Some net) t = AcceptedFolder t net

abbrev pub IsAccepted : List (List ℕ) → Told → Type 0
IsAccepted words t = AcceptedNet (net_of words) t
