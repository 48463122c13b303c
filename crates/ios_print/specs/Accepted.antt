-- A configuration that some text is read as.
use Rattle.std.specs.Prelude.{ℕ, List}
use Rattle.net_types.specs.declared.config.Config.{Config}
use Rattle.ios_config.specs.Reads.{Reads}

-- a text that is read as this configuration, and how many of its lines are passed over
pub record Accepted (c : Config) : Type 0 where
  pub text : List ℕ
  pub passed : ℕ
  pub reads : Reads text c passed
