-- Folders and tables of which nothing is too long, too many or absent. What is refused of them is told, and stops nothing.
use Rattle.std.specs.Prelude.{ℕ, List, Option, None, Some, Ok}
use Rattle.net_io.specs.Files.{Told}
use Rattle.job_core.specs.Accepted.{AcceptedFile}
use Rattle.doctor_warnings.specs.declared.files.TextFile.{TextFile}
use Rattle.doctor_core.specs.Folders.{GivesAll}
use Rattle.doctor_core.specs.Words.{Paths, paths_of, text_of}

-- the folder's files are there, and within the limits
pub record AcceptedTexts (t : Told) (folder : List ℕ) : Type 0 where
  pub files : List TextFile
  pub given : GivesAll t folder (Ok files)

abbrev pub IfAsked : (List ℕ → Type 0) → Option (List ℕ) → Type 0
IfAsked Accepts None = Unit {0}
IfAsked Accepts (Some path) = Accepts path

pub record AcceptedPaths (t : Told) (p : Paths) : Type 0 where
  pub old : AcceptedTexts t p.old
  pub new : IfAsked (AcceptedTexts t) p.new
  pub links : AcceptedFile t p.links
  pub new_links : IfAsked (AcceptedFile t) p.new_links

abbrev pub AcceptedBy : Option (List ℕ) → Option Paths → Told → Type 0
AcceptedBy (Some text) p t = Unit {0}
AcceptedBy None (Some p) t = AcceptedPaths t p
AcceptedBy None None t = ⊥

abbrev pub IsAccepted : List (List ℕ) → Told → Type 0
IsAccepted words t = AcceptedBy (text_of words) (paths_of words) t
