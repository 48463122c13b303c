-- Why the rows of a report differ: what becomes of the least header of each group in both networks.
use Rattle.std.specs.Prelude.{◌≡◌, ◌⊎◌, ℕ, ◌<◌, Bool, true, false, List, [], Option, None, Some, Result, Ok, Err, Contains, length, is_some, slice_get, codes}
use Rattle.std.specs.List.{list_all}
use Rattle.net_types.specs.declared.network.Names.{Names}
use Rattle.net_types.specs.declared.network.Place.{Place}
use Rattle.net_types.specs.declared.network.Section.{Section}
use Rattle.net_load.specs.declared.numbering.NumberedBoth.{NumberedBoth}
use Rattle.net_load.specs.Numbering.{numbered_both}
use Rattle.net_io.specs.Files.{Told, content}
use Rattle.report_groups.specs.declared.types.Entry.{Entry}
use Rattle.report_text.specs.Reports.{IsReportOf}
use Rattle.job_core.specs.declared.report.Report.{Report}
use Rattle.job_core.specs.declared.stop.Stop.{Stop}
use Rattle.job_core.specs.declared.stop.Stop.TheVariants as stop
use Rattle.job_core.specs.Steps.{Then}
use Rattle.view_core.specs.Reports.{GivesReport, own_names}
use Rattle.view_core.specs.Views.{AcceptedReport, SaysReport}
use Rattle.why_core.specs.declared.networks.Networks.{Networks}
use Rattle.why_core.specs.Words.{Why, why_of}
use Rattle.why_core.specs.Networks.{AcceptedNetworks, GivesNetworks}
use Rattle.why_core.specs.declared.words.Manner.{Manner}
use Rattle.why_core.specs.Cases.{AreGroups, Case, Ground, agreeing, cases, explained, is_right}
use Rattle.why_core.specs.Shown.{IsShown}
use Rattle.why_core.specs.Lines.{head_or_end, line_of}

-- ---- an explanation

-- the sections are those of the networks' ingresses, one of each
pub record AreOfIngresses (g : Ground) (sections : List Section) (ingress : List Place) : Type 0 where
  pub whole_report : agreeing g.report g.names sections ingress ≡ length sections
  pub whole_networks : agreeing g.report g.names sections ingress ≡ length ingress

-- for each group that is explained what becomes of its least header in both networks, and it is what the report says
pub record IsExplanation (g : Ground) (ingress : List Place) (m : Manner) (sections : List Section) (text : List ℕ) : Type 0 where
  pub ingresses : AreOfIngresses g sections ingress
  pub groups : List (List Entry)
  pub grouped : AreGroups sections groups
  pub right : list_all (is_right g) (explained m.all (cases sections ingress groups)) ≡ true
  pub shown : IsShown g m (cases sections ingress groups) text

-- ---- a report of other networks

-- a section isn't that of the networks' ingress in its place, or one of them has none. The line is where that section begins, or
-- would
pub record HasOtherIngress (g : Ground) (ingress : List Place) (sections : List Section) (line : List ℕ) : Type 0 where
  pub fewer : (agreeing g.report g.names sections ingress < length sections) ⊎ (agreeing g.report g.names sections ingress < length ingress)
  pub line_is : line ≡ head_or_end g.report (slice_get sections (agreeing g.report g.names sections ingress))

-- one of the networks does something else with the least header of a group. The line is where the group's section begins
pub record HasOtherOutcome (g : Ground) (ingress : List Place) (all : Bool) (sections : List Section) (line : List ℕ) : Type 0 where
  pub groups : List (List Entry)
  pub grouped : AreGroups sections groups
  pub case : Case
  pub among : Contains (explained all (cases sections ingress groups)) case
  pub wrong : is_right g case ≡ false
  pub line_is : line ≡ head_or_end g.report (Some case.section)

abbrev pub IsOther : Ground → List Place → Bool → List Section → List ℕ → Type 0
IsOther g ingress all sections line = HasOtherIngress g ingress sections line ⊎ HasOtherOutcome g ingress all sections line

-- the kind of the refusal
abbrev pub other_networks : List ℕ
other_networks = codes "OtherNetworks"

-- ---- the steps, each over what the files tell

-- the names of a report, and both networks
abbrev pub ground_with : Names → NumberedBoth → Ground
ground_with report n =
    record {
      report = report;
      names = n.names;
      old = record { network = n.old; links = n.old_links };
      new = record { network = n.new; links = n.new_links };
    }

-- the names are those of the report's own lines
abbrev pub ground_over : NumberedBoth → List ℕ → Ground
ground_over n bytes = ground_with (own_names bytes) n

-- the explanation of a report; or it is refused, since it isn't one of these networks
abbrev pub Judges : NumberedBoth → Why → List ℕ → List Section → Result Report Stop → Type 0
Judges n w bytes sections (Ok r) =
    IsExplanation (ground_over n bytes) n.ingress w.manner sections r.text.items × (r.affected ≡ false)
Judges n w bytes sections (Err (stop.Refused path number kind word)) =
    (line : List ℕ) × IsOther (ground_over n bytes) n.ingress w.manner.all sections line
    × (path ≡ w.report) × (number ≡ line_of bytes line) × (kind ≡ other_networks) × (word ≡ [])
Judges n w bytes sections (Err stop.NoMemory) = Unit {0}
Judges n w bytes sections (Err _) = ⊥

-- both networks over their names
abbrev pub numbered_of : Networks → NumberedBoth
numbered_of n = numbered_both n.old.items n.new.items n.links n.links []

-- the bytes are read as `view REPORT` reads them
abbrev pub ExplainsBytes : NumberedBoth → Why → List ℕ → Result Report Stop → Type 0
ExplainsBytes n w bytes = Then (SaysReport w.report bytes) (λ r. Judges n w bytes r.sections.items)

abbrev pub ExplainsOver : Told → NumberedBoth → Why → Result Report Stop → Type 0
ExplainsOver t n w = Then (GivesReport (λ bytes. bytes) w.report (content t w.report)) (ExplainsBytes n w)

-- the networks are read as a comparison reads them, and then the report
abbrev pub Explains : Told → Why → Result Report Stop → Type 0
Explains t w = Then (GivesNetworks t w.old w.new w.links) (λ n. ExplainsOver t (numbered_of n) w)

abbrev pub Performs : Option Why → Told → Result Report Stop → Type 0
Performs None t result = ⊥
Performs (Some w) t result = Explains t w result

-- what the words ask, done; or why it isn't
abbrev pub Does : List (List ℕ) → Told → Result Report Stop → Type 0
Does words t result = Performs (why_of words) t result

-- the words are within the usage
abbrev pub is_asked : List (List ℕ) → Bool
is_asked words = is_some (why_of words)

-- ---- what is explained

-- the report is one of these networks, as far as it is explained, however its rows are grouped
pub record AreOfThese (n : NumberedBoth) (all : Bool) (bytes : List ℕ) (sections : List Section) : Type 0 where
  pub ingresses : AreOfIngresses (ground_over n bytes) sections n.ingress
  pub right : (groups : List (List Entry)) → AreGroups sections groups → list_all (is_right (ground_over n bytes)) (explained all (cases sections n.ingress groups)) ≡ true

-- the networks and the report are accepted, and the report is one of these networks
pub record AcceptedWhy (t : Told) (w : Why) : Type 0 where
  pub networks : AcceptedNetworks t w.old w.new w.links
  pub report : AcceptedReport t w.report
  pub same : (sections : List Section) → IsReportOf (own_names report.bytes) sections report.bytes
      → AreOfThese (numbered_both networks.before.devices networks.after.devices networks.table.links.table networks.table.links.table []) w.manner.all report.bytes sections

abbrev pub Accepted : Option Why → Told → Type 0
Accepted None t = ⊥
Accepted (Some w) t = AcceptedWhy t w

abbrev pub IsAccepted : List (List ℕ) → Told → Type 0
IsAccepted words t = Accepted (why_of words) t
