-- What may stop a job at a folder of which nothing is refused, too long or absent.
use Rattle.std.proofs.Common.{◌≡◌, ◌⊎◌, inl, inr, ℕ, List, sym, subst}
use Rattle.std.specs.Prelude.{Result, Ok, Err}
use Rattle.net_types.specs.declared.config.Loaded.{Loaded}
use Rattle.net_io.specs.Files.{Told}
use Rattle.net_load.specs.declared.folder.LoadFail.{LoadFail}
use Rattle.net_load.specs.declared.folder.LoadFail.TheVariants as load
use Rattle.net_load.specs.Folder.{Unless}
use Rattle.net_load.proofs.OneAnswer.{loaded_is_free, loads_once}
use Rattle.job_core.specs.declared.stop.Stop.{Stop}
use Rattle.job_core.specs.declared.stop.Stop.TheVariants as stop
use Rattle.job_core.specs.Accepted.{MayAlwaysStop}
use Rattle.job_inputs.specs.Folders.{stop_of_load, FolderStops, GivesFolder, AcceptedFolder}

free_load : (fail : LoadFail) → Unless fail ⊥ → MayAlwaysStop (stop_of_load fail)
free_load (load.Fault p) h = tt
free_load load.NoMemory h = tt
free_load (load.Absent p) h = h
free_load (load.TooLong p) h = h
free_load (load.TooManyFiles p) h = h
free_load (load.FolderTooLong p) h = h
free_load (load.Refused p r) h = h
free_load (load.HostnameTaken p q) h = h

free_stop : (fail : LoadFail) (s : Stop) → Unless fail ⊥ → FolderStops fail s → MayAlwaysStop s
free_stop fail s free (inl same) = subst MayAlwaysStop (sym same) (free_load fail free)
free_stop fail s free (inr memory) = subst MayAlwaysStop (sym memory) tt

pub folder_may_stop : (t : Told) (folder : List ℕ) (a : AcceptedFolder t folder) (s : Stop) → GivesFolder (λ (devices : List Loaded). devices) t folder (Err s) → MayAlwaysStop s
folder_may_stop t folder a s (fail, fails, stops) = free_stop fail s (loaded_is_free t folder a.devices fail a.loaded fails) stops

-- the folder that is given is the accepted one
pub folder_is : (t : Told) (folder : List ℕ) (a : AcceptedFolder t folder) (devices : List Loaded) → GivesFolder (λ (ds : List Loaded). ds) t folder (Ok devices) → devices ≡ a.devices
folder_is t folder a devices gives = loads_once t folder devices a.devices gives a.loaded
