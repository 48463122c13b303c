-- What the words ask of the doctor, over what the files tell alone.
use Rattle.std.specs.Prelude.{◌≡◌, ℕ, Bool, true, false, List, Option, None, Some, Result, length, nat_lt}
use Rattle.net_io.specs.Files.{Told}
use Rattle.doctor_warnings.specs.declared.network.Subject.{Subject}
use Rattle.doctor_warnings.specs.declared.files.TextAt.{TextAt}
use Rattle.doctor_warnings.specs.declared.network.Texts.{Texts}
use Rattle.doctor_warnings.specs.declared.network.Notes.{Notes}
use Rattle.doctor_warnings.specs.Doctor.{warnings, AreNotes}
use Rattle.doctor_warnings.specs.Texts.{IsText}
use Rattle.doctor_warnings.specs.NotesJson.{notes_json}
use Rattle.job_core.specs.declared.report.Report.{Report}
use Rattle.job_core.specs.declared.stop.Stop.{Stop}
use Rattle.job_core.specs.Steps.{OrNoMemory, Then}
use Rattle.doctor_core.specs.Folders.{GivesTextAt, GivesTexts}
use Rattle.doctor_core.specs.Words.{Paths, paths_of, text_of}

-- notes as they are written: a document, or a text
abbrev pub AreWritten : (json all : Bool) → Notes → List ℕ → Type 0
AreWritten true all n text = text ≡ notes_json n
AreWritten false all n text = IsText all n text

-- the notes on the networks as they are written, and whether there is a warning
pub record IsWritten (json : Bool) (s : Subject) (r : Report) : Type 0 where
  pub notes : Notes
  pub are : AreNotes s notes
  pub text : AreWritten json s.all notes r.text.items
  pub affected : r.affected ≡ nat_lt 0 (length (warnings s))

abbrev pub IsLook : (json : Bool) → Subject → Result Report Stop → Type 0
IsLook json s = OrNoMemory (IsWritten json s)

-- ---- the files in the order in which they are read

-- the same with a link table of the new network
abbrev pub with_links : Subject → TextAt → Subject
with_links s new_links = record s { tables = record { links = s.tables.links; new_links = Some new_links } }

abbrev pub LooksBehind : (json : Bool) → Option (List ℕ) → Told → Subject → Result Report Stop → Type 0
LooksBehind json None t s = IsLook json s
LooksBehind json (Some path) t s = Then (GivesTextAt t path) (λ new_links. IsLook json (with_links s new_links))

-- two networks, or one, with a link table
abbrev pub subject_of : Paths → Texts → Option Texts → TextAt → Subject
subject_of p old new links = record { all = p.all; old = old; new = new; tables = record { links = links; new_links = None } }

abbrev pub LooksWith : Told → Paths → Texts → Option Texts → Result Report Stop → Type 0
LooksWith t p old new = Then (GivesTextAt t p.links) (λ links. LooksBehind p.json p.new_links t (subject_of p old new links))

abbrev pub LooksOver : Option (List ℕ) → Told → Paths → Texts → Result Report Stop → Type 0
LooksOver None t p old = LooksWith t p old None
LooksOver (Some path) t p old = Then (GivesTexts t path) (λ new. LooksWith t p old (Some new))

-- the old folder, the new one, the link table, and that of the new network
abbrev pub Looks : Told → Paths → Result Report Stop → Type 0
Looks t p = Then (GivesTexts t p.old) (LooksOver p.new t p)

-- ---- the job

-- a text that is asked for by itself
pub record IsTold (asked : List ℕ) (r : Report) : Type 0 where
  pub text : r.text.items ≡ asked
  pub affected : r.affected ≡ false

abbrev pub DoesBy : Option (List ℕ) → Option Paths → Told → Result Report Stop → Type 0
DoesBy (Some text) p t result = OrNoMemory (IsTold text) result
DoesBy None (Some p) t result = Looks t p result
DoesBy None None t result = ⊥

-- what the words ask, done
abbrev pub Does : List (List ℕ) → Told → Result Report Stop → Type 0
Does words t result = DoesBy (text_of words) (paths_of words) t result
