-- Two networks, each with its links.
use Rattle.net_types.specs.World.{World}
use Rattle.net_forms.specs.declared.version.Version.{Version}
use Rattle.net_forms.specs.declared.version.Version.TheVariants as version

pub record Worlds : Type 0 where
  pub old : World
  pub new : World

abbrev pub world_in : Worlds → Version → World
world_in ws version.Old = ws.old
world_in ws version.New = ws.new
