-- A job's step that reads a configuration by itself: what the bytes of a file say, or why the job stops there.
use Rattle.std.specs.Prelude.{◌≡◌, ℕ, List, Result, Ok, Err}
use Rattle.net_types.specs.declared.config.Loaded.{Loaded}
use Rattle.ios_lines.specs.declared.fault.Refusal.{Refusal}
use Rattle.ios_lines.specs.Kinds.{kind_text}
use Rattle.ios_config.specs.Reads.{Reads, Refused}
use Rattle.job_core.specs.declared.stop.Stop.{Stop}
use Rattle.job_core.specs.declared.stop.Stop.TheVariants as stop

-- the bytes of the file at this path, read as a configuration
pub record IsConfig (path bytes : List ℕ) (l : Loaded) : Type 0 where
  pub file : l.file ≡ path
  pub read : Reads bytes l.config l.passed

-- they are refused
abbrev pub ConfigFails : List ℕ → List ℕ → Stop → Type 0
ConfigFails path bytes (stop.Refused p n k word) =
    (p ≡ path) × (r : Refusal) × Refused bytes r × (n ≡ r.line) × (k ≡ kind_text r.kind) × (word ≡ r.word)
ConfigFails path bytes stop.NoMemory = Unit {0}
ConfigFails path bytes _ = ⊥

abbrev pub SaysConfig : List ℕ → List ℕ → Result Loaded Stop → Type 0
SaysConfig path bytes (Ok l) = IsConfig path bytes l
SaysConfig path bytes (Err s) = ConfigFails path bytes s
