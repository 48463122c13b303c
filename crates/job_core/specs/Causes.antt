-- A count of faults over a step of a job.
use Rattle.std.specs.Prelude.{ℕ, ◌≤◌, List, Option, Result, IfErr}
use Rattle.net_io.specs.Faults.{Rose, IsLast}
use Rattle.job_core.specs.declared.stop.Stop.{Stop}
use Rattle.job_core.specs.declared.stop.Stop.TheVariants as stop

-- a file can't be read only where the count rose
abbrev pub FaultRose : ℕ → ℕ → Stop → Type 0
FaultRose before now (stop.CannotRead path) = Rose before now
FaultRose before now _ = Unit {0}

-- the count never falls, and has risen where a file could not be read
pub record HasCause {T : Type 0} (before now : ℕ) (result : Result T Stop) : Type 0 where
  pub later : before ≤ now
  pub fault : IfErr result (FaultRose before now)

-- a file that can't be read is the one of the call that failed last, where that is told
abbrev pub NamesLast : Option (List ℕ) → Stop → Type 0
NamesLast last (stop.CannotRead path) = IsLast path last
NamesLast last _ = Unit {0}

-- a step that reads no file is stopped by none that can't be read
abbrev pub WasRead : Stop → Type 0
WasRead (stop.CannotRead path) = ⊥
WasRead _ = Unit {0}
