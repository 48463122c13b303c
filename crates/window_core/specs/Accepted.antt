-- A rollout of which nothing is refused, too long, too many or absent.
use Rattle.std.specs.Prelude.{◌≡◌, ℕ, List, [], Option, None, Some, Ok}
use Rattle.net_types.specs.declared.config.Loaded.{Loaded}
use Rattle.net_io.specs.Files.{Told}
use Rattle.ask_query.specs.Reading.{Said, questions_of}
use Rattle.rollout_steps.specs.declared.reading.StepLine.{StepLine}
use Rattle.rollout_steps.specs.Reading.{steps_of}
use Rattle.job_core.specs.declared.table.Wires.TheVariants as wires
use Rattle.job_core.specs.Accepted.{AcceptedFile, AcceptedTable}
use Rattle.job_inputs.specs.Folders.{AcceptedFolder}
use Rattle.window_core.specs.declared.base.Base.{Base}
use Rattle.window_core.specs.Changes.{GivesChanges}
use Rattle.window_core.specs.Job.{asked_network}
use Rattle.window_core.specs.Words.{Paths, paths_of}

-- the network is loaded, and the link table is accepted with it as both networks
pub record AcceptedBase (t : Told) (p : Paths) : Type 0 where
  pub folder : AcceptedFolder t p.net
  pub table : AcceptedTable t p.links wires.Both folder.devices folder.devices

abbrev pub base_of : {t : Told} → {p : Paths} → AcceptedBase t p → Base
base_of a = record { devices = a.folder.devices; table = a.table.links.table }

-- the file is there, within the limit, and says steps
pub record AcceptedSteps (t : Told) (path : List ℕ) : Type 0 where
  pub file : AcceptedFile t path
  pub lines : List StepLine
  pub read : steps_of file.bytes ≡ Ok lines

-- the questions are questions on the network, and the steps give changes
pub record AcceptedRollout (t : Told) (p : Paths) : Type 0 where
  pub base : AcceptedBase t p
  pub text : AcceptedFile t p.questions
  pub asked : List Said
  pub read : questions_of (asked_network (base_of base)).old text.bytes ≡ Ok asked
  pub steps : AcceptedSteps t p.steps
  pub changes : List Loaded
  pub taken : GivesChanges t p.steps (base_of base) [] 0 steps.lines (Ok changes)

abbrev pub AcceptedPaths : Option Paths → Told → Type 0
AcceptedPaths None t = ⊥
AcceptedPaths (Some p) t = AcceptedRollout t p

abbrev pub IsAccepted : List (List ℕ) → Told → Type 0
IsAccepted words t = AcceptedPaths (paths_of words) t
