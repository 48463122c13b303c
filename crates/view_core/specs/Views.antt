-- What the program does.
use Rattle.std.specs.Prelude.{ℕ, false, ◌≡◌, ◌≤◌, List, [], Option, None, Some, Result, Ok, Err, length}
use Rattle.net_io.specs.Files.{Told, content}
use Rattle.net_types.specs.declared.network.Names.{Names}
use Rattle.net_types.specs.declared.network.Section.{Section}
use Rattle.job_core.specs.declared.report.Report.{Report}
use Rattle.job_core.specs.declared.stop.Stop.{Stop}
use Rattle.job_core.specs.declared.stop.Stop.TheVariants as stop
use Rattle.job_core.specs.Steps.{Then}
use Rattle.report_text.specs.Reports.{IsReportOf}
use Rattle.view_core.specs.declared.reading.Reported.{Reported}
use Rattle.view_core.specs.declared.words.Format.{Format}
use Rattle.view_core.specs.declared.words.Format.TheVariants as format
use Rattle.view_core.specs.declared.words.Manner.{Manner}
use Rattle.view_core.specs.Reports.{own_names, IsReport, IsNoReport, report_limit, GivesReport}
use Rattle.view_core.specs.declared.ingresses.Ingress.{Ingress}
use Rattle.view_core.specs.Ingresses.{AreIngresses}
use Rattle.view_core.specs.ReportJson.{report_json}
use Rattle.view_core.specs.ViewText.{view_text}
use Rattle.view_core.specs.Words.{path_of, manner_of, said}

-- ---- what is shown of a report

abbrev pub shown_as : Format → List ℕ → Names → List Ingress → List ℕ
shown_as format.Text title names ingresses = view_text title names ingresses
shown_as format.Json title names ingresses = report_json names ingresses

-- the whole text or the whole document of a report, over groups of its rows: how rows are grouped is not fixed, but each row is in one
-- group, and a group shows exactly its headers
pub record IsView (m : Manner) (names : Names) (sections : List Section) (text : List ℕ) : Type 0 where
  pub ingresses : List Ingress
  pub are : AreIngresses sections ingresses
  pub whole : text ≡ shown_as m.format m.title names ingresses

-- ---- the steps, each over what the files tell: what it gives, or why the program stops there

-- why a text isn't shown: its refusal has a line, and neither a kind nor a word
abbrev pub ReportFails : List ℕ → List ℕ → Stop → Type 0
ReportFails path bytes (stop.Refused p line kind word) = (p ≡ path) × IsNoReport bytes line × (kind ≡ []) × (word ≡ [])
ReportFails path bytes stop.NoMemory = Unit {0}
ReportFails path bytes _ = ⊥

-- the report that a text is, over the names of its own lines; or why it is none
abbrev pub SaysReport : List ℕ → List ℕ → Result Reported Stop → Type 0
SaysReport path bytes (Ok r) = (r.names ≡ own_names bytes) × IsReportOf (own_names bytes) r.sections.items bytes
SaysReport path bytes (Err s) = ReportFails path bytes s

-- the view of a text that is a report, or why there is none
abbrev pub Views : Manner → List ℕ → List ℕ → Result Report Stop → Type 0
Views m path bytes (Ok r) = ((is : IsReport bytes) × IsView m (own_names bytes) is.sections r.text.items) × (r.affected ≡ false)
Views m path bytes (Err s) = ReportFails path bytes s

-- the file of the report is read, and shown
abbrev pub Shows : Told → Manner → List ℕ → Result Report Stop → Type 0
Shows t m path = Then (GivesReport (λ bytes. bytes) path (content t path)) (Views m path)

abbrev pub Performs : Option (List ℕ) → Manner → Told → Result Report Stop → Type 0
Performs None m t result = ⊥
Performs (Some path) m t result = Shows t m path result

-- a text about the program itself
abbrev pub Says : List ℕ → Result Report Stop → Type 0
Says text (Ok r) = (r.text.items ≡ text) × (r.affected ≡ false)
Says text (Err stop.NoMemory) = Unit {0}
Says text (Err _) = ⊥

abbrev pub SaysOr : Option (List ℕ) → (Result Report Stop → Type 0) → Result Report Stop → Type 0
SaysOr (Some text) Other result = Says text result
SaysOr None Other result = Other result

-- what the words ask, done; or why it isn't
abbrev pub Does : List (List ℕ) → Told → Result Report Stop → Type 0
Does words t result = SaysOr (said words) (Performs (path_of words) (manner_of words) t) result

-- ---- what may be shown

-- the file is there, within the limit, and a report
pub record AcceptedReport (t : Told) (path : List ℕ) : Type 0 where
  pub bytes : List ℕ
  pub there : content t path ≡ Some bytes
  pub within : length bytes ≤ report_limit
  pub report : IsReport bytes

abbrev pub AcceptedView : Option (List ℕ) → Told → Type 0
AcceptedView None t = ⊥
AcceptedView (Some path) t = AcceptedReport t path

abbrev pub AcceptedOr : Option (List ℕ) → Type 0 → Type 0
AcceptedOr (Some text) Other = Unit {0}
AcceptedOr None Other = Other

-- the words are within the usage, and the report is there and accepted
abbrev pub IsAccepted : List (List ℕ) → Told → Type 0
IsAccepted words t = AcceptedOr (said words) (AcceptedView (path_of words) t)
