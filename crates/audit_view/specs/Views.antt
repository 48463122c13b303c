-- What the program does.
use Rattle.std.specs.Prelude.{ℕ, ◌+◌, Bool, false, ◌≡◌, ◌≢◌, ◌⊎◌, ◌≤◌, List, [], ◌∷◌, Option, None, Some, Result, Ok, Err, length, reverse}
use Rattle.net_io.specs.Files.{Told, content, path_in}
use Rattle.net_types.specs.declared.config.Loaded.{Loaded}
use Rattle.job_core.specs.declared.report.Report.{Report}
use Rattle.job_core.specs.declared.stop.Stop.{Stop}
use Rattle.job_core.specs.declared.stop.Stop.TheVariants as stop
use Rattle.job_core.specs.Steps.{Then, UnreadFile}
use Rattle.job_inputs.specs.Folders.{GivesFolder, AcceptedFolder}
use Rattle.view_core.specs.declared.words.Format.{Format}
use Rattle.view_core.specs.declared.words.Format.TheVariants as format
use Rattle.view_core.specs.Names.{text_lines}
use Rattle.view_core.specs.Reports.{report_limit, GivesReport}
use Rattle.audit_view.specs.declared.audited.AuditedList.{AuditedList}
use Rattle.audit_view.specs.declared.lists.FolderList.{FolderList}
use Rattle.audit_view.specs.declared.words.Manner.{Manner}
use Rattle.audit_view.specs.Lists.{lists_of}
use Rattle.audit_view.specs.Said.{said_in}
use Rattle.result_text.specs.AuditText.{audit_text}
use Rattle.audit_view.specs.Audited.{with_findings, audited_lists, first_unknown}
use Rattle.view_core.specs.Differing.{same_lines}
use Rattle.audit_view.specs.ShownText.{view_text}
use Rattle.audit_view.specs.ShownJson.{audit_json}
use Rattle.audit_view.specs.Words.{paths_of, manner_of}

-- ---- what is shown

-- the text and the document are exactly those of the findings
abbrev pub IsFormat : Format → Bool → List AuditedList → List ℕ → Type 0
IsFormat format.Text rows audited text = text ≡ view_text rows audited
IsFormat format.Json rows audited text = text ≡ audit_json rows audited

abbrev pub IsView : Manner → List AuditedList → List ℕ → Type 0
IsView m audited text = IsFormat m.format m.rows audited text

-- ---- audits

-- the lists of a folder with the findings that the bytes say
abbrev pub audited_by : List FolderList → List ℕ → List AuditedList
audited_by lists bytes = with_findings lists (reverse (said_in (text_lines bytes)))

-- the bytes are what an audit writes with these findings, and no line names an entry that its list hasn't
pub record IsAudit (audited : List AuditedList) (bytes : List ℕ) : Type 0 where
  pub written : audit_text audited_lists audited ≡ bytes
  pub known : first_unknown audited ≡ None

-- it is written otherwise: first at this line, from 1
pub record IsOther (audited : List AuditedList) (bytes : List ℕ) (line : ℕ) : Type 0 where
  pub other : audit_text audited_lists audited ≢ bytes
  pub place : line ≡ same_lines (text_lines bytes) (text_lines (audit_text audited_lists audited)) + 1

-- a line names an entry that its list hasn't: this is the first, from 1
pub record IsUnknown (audited : List AuditedList) (line : ℕ) : Type 0 where
  pub before : ℕ
  pub unknown : first_unknown audited ≡ Some before
  pub place : line ≡ before + 1

-- the line at which the bytes are no audit with these findings, if there is one
abbrev pub IsFault : List AuditedList → List ℕ → Option ℕ → Type 0
IsFault audited bytes None = IsAudit audited bytes
IsFault audited bytes (Some line) = IsOther audited bytes line ⊎ IsUnknown audited line

-- ---- the steps, each over what the files tell: what it gives, or why the program stops there

-- why the file of one of these configurations can't be read once more
abbrev pub FileStops : Told → List ℕ → List Loaded → Stop → Type 0
FileStops t net [] s = ⊥
FileStops t net (d ∷ devices) s = UnreadFile (path_in net d.file) (content t (path_in net d.file)) s ⊎ FileStops t net devices s

-- the lists of these configurations, or why not
abbrev pub ReadsLists : {T : Type 0} → (T → List FolderList) → Told → List ℕ → List Loaded → Result T Stop → Type 0
ReadsLists view t net devices (Ok lists) = view lists ≡ lists_of t net devices
ReadsLists view t net devices (Err s) = FileStops t net devices s

-- the lists of a folder that is loaded; or why there are none
abbrev pub GivesNet : {T : Type 0} → (T → List FolderList) → Told → List ℕ → Result T Stop → Type 0
GivesNet view t net (Ok lists) = (devices : List Loaded) × GivesFolder (λ ds. ds) t net (Ok devices) × (view lists ≡ lists_of t net devices)
GivesNet view t net (Err s) =
    GivesFolder {T = List Loaded} (λ ds. ds) t net (Err s) ⊎ ((devices : List Loaded) × GivesFolder (λ ds. ds) t net (Ok devices) × FileStops t net devices s)

-- why a text isn't shown: its refusal has a line, and neither a kind nor a word
abbrev pub AuditFails : List ℕ → List FolderList → List ℕ → Stop → Type 0
AuditFails path lists bytes (stop.Refused p line kind word) = (p ≡ path) × IsFault (audited_by lists bytes) bytes (Some line) × (kind ≡ []) × (word ≡ [])
AuditFails path lists bytes stop.NoMemory = Unit {0}
AuditFails path lists bytes _ = ⊥

-- the view of a text that is an audit of these lists, or why there is none
abbrev pub Views : Manner → List ℕ → List ℕ → List FolderList → Result Report Stop → Type 0
Views m path bytes lists (Ok r) = IsAudit (audited_by lists bytes) bytes × IsView m (audited_by lists bytes) r.text.items × (r.affected ≡ false)
Views m path bytes lists (Err s) = AuditFails path lists bytes s

-- what the audit wrote is read first; then come the folder and its files
abbrev pub ViewsWith : Told → Manner → List ℕ → List ℕ → List ℕ → Result Report Stop → Type 0
ViewsWith t m path net bytes = Then (GivesNet (λ lists. lists) t net) (Views m path bytes)

abbrev pub Shows : Told → Manner → List ℕ → List ℕ → Result Report Stop → Type 0
Shows t m path net = Then (GivesReport (λ bytes. bytes) path (content t path)) (ViewsWith t m path net)

abbrev pub Performs : Option (List ℕ × List ℕ) → Manner → Told → Result Report Stop → Type 0
Performs None m t result = ⊥
Performs (Some paths) m t result = Shows t m paths.0 paths.1 result

-- what the words ask, done; or why it isn't
abbrev pub Does : List (List ℕ) → Told → Result Report Stop → Type 0
Does words t result = Performs (paths_of words) (manner_of words) t result

-- ---- what may be shown

-- what the audit wrote is there, within the limit; the folder is loaded; and the one is an audit of the other's lists
pub record AcceptedAudit (t : Told) (path net : List ℕ) : Type 0 where
  pub bytes : List ℕ
  pub there : content t path ≡ Some bytes
  pub within : length bytes ≤ report_limit
  pub folder : AcceptedFolder t net
  pub audit : IsAudit (audited_by (lists_of t net folder.devices) bytes) bytes

abbrev pub AcceptedPaths : Option (List ℕ × List ℕ) → Told → Type 0
AcceptedPaths None t = ⊥
AcceptedPaths (Some paths) t = AcceptedAudit t paths.0 paths.1

-- the words are within the usage, and what they name is accepted
abbrev pub IsAccepted : List (List ℕ) → Told → Type 0
IsAccepted words t = AcceptedPaths (paths_of words) t
