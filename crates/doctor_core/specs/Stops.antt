-- Why a folder isn't listed.
use Rattle.std.specs.Prelude.{◌≡◌}
use Rattle.net_load.specs.declared.folder.LoadFail.{LoadFail}
use Rattle.net_load.specs.declared.folder.LoadFail.TheVariants as fail
use Rattle.job_core.specs.declared.stop.Stop.{Stop}
use Rattle.job_core.specs.declared.stop.Stop.TheVariants as stop

-- a fault or an absent folder stops the job as what it is; a listing has no other cause but want of memory
abbrev pub IsStopOf : LoadFail → Stop → Type 0
IsStopOf (fail.Fault p) s = s ≡ stop.CannotRead p
IsStopOf (fail.Absent p) s = s ≡ stop.NotFound p
IsStopOf _ s = s ≡ stop.NoMemory
