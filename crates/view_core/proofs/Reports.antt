-- Texts that are reports, and those that aren't.
use Rattle.std.proofs.Common.{◌≡◌, ℕ, ◌≤◌, false, length, List, [], Ok, Err, Vec, Global, refl, ap, sym, subst}
use Rattle.net_types.specs.declared.network.Names.{Names}
use Rattle.net_types.specs.declared.network.Section.{Section}
use Rattle.report_text.specs.Reports.{IsReportOf, ReadsReport}
use Rattle.report_text.specs.declared.reader.ReportFail.{ReportFail}
use Rattle.report_text.specs.declared.reader.ReportFail.TheVariants.{NotReport}
use Rattle.view_core.specs.Names.{names_of, text_lines}
use Rattle.view_core.specs.declared.words.Manner.{Manner}
use Rattle.view_core.specs.Reports.{IsReport, IsNoReport, own_names}
use Rattle.view_core.specs.declared.reading.Reported.{Reported}
use Rattle.view_core.specs.Views.{IsView, Views, SaysReport}
use Rattle.job_core.specs.declared.report.Report.{Report}
use Rattle.job_core.specs.declared.stop.Stop.TheVariants as stop
use Rattle.view_core.proofs.OwnNames as own

pub is_report : (names : Names) (sections : List Section) (bytes : List ℕ) → names.texts ≡ names_of bytes → IsReportOf names sections bytes → IsReport bytes
is_report names sections bytes same r = record { names = own.own_names bytes; sections = sections; report = subst (λ (ts : List (List ℕ)). IsReportOf (record { texts = ts }) sections bytes) same r }

pub is_none : (names : Names) (bytes : List ℕ) (line : ℕ) → names.texts ≡ names_of bytes → ((sections : List Section) → IsReportOf names sections bytes → ⊥) → 1 ≤ line → line ≤ length (text_lines bytes) → IsNoReport bytes line
is_none names bytes line same none low high = record { none = λ sections r. none sections (subst (λ (ts : List (List ℕ)). IsReportOf (record { texts = ts }) sections bytes) (sym same) r); low = low; high = high }

pub refused_views : (m : Manner) (path bytes : List ℕ) (line : ℕ) (kind word : List ℕ) → IsNoReport bytes line → kind ≡ [] → word ≡ [] → Views m path bytes (Err (stop.Refused path line kind word))
refused_views m path bytes line kind word fails none silent = (refl, fails, none, silent)

-- what is no report is the report of no sections
pub no_sections : {X : Type 0} (view : X → List Section) (names : Names) (bytes : List ℕ) (fail : ReportFail) → fail ≡ NotReport → ReadsReport view names bytes (Err fail) → (sections : List Section) → IsReportOf names sections bytes → ⊥
no_sections view names bytes fail e reads = subst (λ f. ReadsReport view names bytes (Err f)) e reads

-- what was read is what the text says
pub says_report : (path bytes : List ℕ) (names : Names) (sections : Vec Section Global) → names.texts ≡ names_of bytes → IsReportOf names sections.items bytes → SaysReport path bytes (Ok (record { names = names; sections = sections }))
says_report path bytes names sections same read =
    (ap (λ (ts : List (List ℕ)). record { texts = ts }) same, subst (λ (ts : List (List ℕ)). IsReportOf (record { texts = ts }) sections.items bytes) same read)

-- a report that was read is shown
pub reported_views : (m : Manner) (path bytes : List ℕ) (reported : Reported) (r : Report) → SaysReport path bytes (Ok reported) → IsView m reported.names reported.sections.items r.text.items → r.affected ≡ false → Views m path bytes (Ok r)
unfolding is_report
reported_views m path bytes reported r says shown plain =
    ((is_report (own_names bytes) reported.sections.items bytes refl says.1, subst (λ (n : Names). IsView m n reported.sections.items r.text.items) says.0 shown), plain)
