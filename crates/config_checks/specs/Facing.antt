-- The prefixes in which addresses are looked up, and those that lead out of a side.
use Rattle.std.specs.Prelude.{filter}
use Rattle.net_types.specs.Routes.{installed}
use Rattle.config_checks.specs.declared.translation.Facing.{Facing}
use Rattle.config_checks.specs.Findings.{is_out}
use Rattle.config_checks.specs.Held.{AreOf}

-- exactly those of the installed routes
pub record IsFacing (f : Facing) : Type 0 where
  pub all : AreOf f.all (installed f.config.now)
  pub out : AreOf f.out (filter (is_out f.side f.config.now) (installed f.config.now))
