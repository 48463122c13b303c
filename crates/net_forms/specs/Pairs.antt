-- Two networks that are compiled in one table.
use Rattle.std.specs.Prelude.{◌≡◌}
use Rattle.cube_diagram.specs.Functions.{Functions}
use Rattle.net_view.specs.Borrowed.{world_of}
use Rattle.net_forms.specs.declared.networks.Networks.{Networks}
use Rattle.net_forms.specs.declared.prepared.BothForms.{BothForms}
use Rattle.net_forms.specs.declared.prepared.PreparedParts.{PreparedParts}
use Rattle.net_forms.specs.Networks.{AreLike, IsNetworkForm}
use Rattle.net_forms.specs.Worlds.{Worlds}

-- the networks with their links
abbrev pub worlds_of : Networks → Worlds
worlds_of ns = record { old = world_of ns.old; new = world_of ns.new }

-- each is compiled in the table that has these functions, and they do the same at the devices with the names that they have alike
pub record AreBothForms (fs : Functions) (f : BothForms) : Type 0 where
  pub old : IsNetworkForm fs f.fates.now f.old.now
  pub new : IsNetworkForm fs f.fates.now f.new.now
  pub like : AreLike f.old.now f.new.now f.like.now.keys

-- each is compiled in the tables, with the names of devices that they have alike, and these are the two networks
pub record ArePreparedParts (ws : Worlds) (f : PreparedParts) : Type 0 where
  pub old : IsNetworkForm f.tables.diagrams f.tables.fates f.old
  pub new : IsNetworkForm f.tables.diagrams f.tables.fates f.new
  pub like : AreLike f.old f.new f.like.keys
  pub worlds : record { old = world_of f.old.world; new = world_of f.new.world } ≡ ws
