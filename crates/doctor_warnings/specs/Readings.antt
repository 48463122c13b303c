-- What a text is read as, by its parts: its refusal, or its configuration with the count of lines that are passed over.
use Rattle.std.specs.Prelude.{ℕ, List, Option, Some, None, is_some, Result, Ok, Err, if◌then◌else◌}
use Rattle.net_types.specs.declared.config.Config.{Config}
use Rattle.ios_lines.specs.declared.fault.Refusal.{Refusal}
use Rattle.ios_config.specs.declared.reader.Reading.{Reading}
use Rattle.ios_config.specs.Reads.{effects, refusal}
use Rattle.ios_config.specs.Rules.{config_of, passed}

abbrev pub refusal_in : Result Reading Refusal → Option Refusal
refusal_in (Ok r) = None
refusal_in (Err r) = Some r

abbrev pub config_in : Result Reading Refusal → Option (Config × ℕ)
config_in (Ok r) = Some (r.config, r.passed)
config_in (Err r) = None

-- the configuration of a text, where it isn't refused
abbrev pub config_by : List ℕ → Option (Config × ℕ)
config_by bytes = if is_some (refusal (effects bytes)) then None else Some (config_of (effects bytes), passed (effects bytes))
