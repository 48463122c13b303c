-- A job's step that reads a folder: its configurations, or why the job stops there.
use Rattle.std.specs.Prelude.{◌≡◌, ◌⊎◌, ℕ, List, Result, Ok, Err}
use Rattle.net_types.specs.declared.config.Loaded.{Loaded}
use Rattle.net_io.specs.Files.{Told}
use Rattle.ios_lines.specs.Kinds.{kind_text}
use Rattle.net_load.specs.declared.folder.LoadFail.{LoadFail}
use Rattle.net_load.specs.declared.folder.LoadFail.TheVariants as load
use Rattle.net_load.specs.Folder.{Loads}
use Rattle.job_core.specs.declared.stop.Stop.{Stop}
use Rattle.job_core.specs.declared.stop.Stop.TheVariants as stop

-- what stops a job where a folder isn't loaded
abbrev pub stop_of_load : LoadFail → Stop
stop_of_load (load.Fault path) = stop.CannotRead path
stop_of_load (load.Absent path) = stop.NotFound path
stop_of_load (load.TooLong path) = stop.TooLong path
stop_of_load (load.TooManyFiles path) = stop.TooManyFiles path
stop_of_load (load.FolderTooLong path) = stop.TooLong path
stop_of_load (load.Refused path refusal) = stop.Refused path refusal.line (kind_text refusal.kind) refusal.word
stop_of_load (load.HostnameTaken first second) = stop.HostnameTaken first second
stop_of_load load.NoMemory = stop.NoMemory

-- that, or there was no memory to say it
abbrev pub FolderStops : LoadFail → Stop → Type 0
FolderStops fail s = (s ≡ stop_of_load fail) ⊎ (s ≡ stop.NoMemory)

-- the folder's configurations, or why they are not loaded
abbrev pub GivesFolder : {T : Type 0} → (T → List Loaded) → Told → List ℕ → Result T Stop → Type 0
GivesFolder view t folder (Ok devices) = Loads view t folder (Ok devices)
GivesFolder view t folder (Err s) = (fail : LoadFail) × Loads view t folder (Err fail) × FolderStops fail s

-- the folder is loaded: nothing of it is refused, too long or absent
pub record AcceptedFolder (t : Told) (folder : List ℕ) : Type 0 where
  pub devices : List Loaded
  pub loaded : Loads (λ devices. devices) t folder (Ok devices)
