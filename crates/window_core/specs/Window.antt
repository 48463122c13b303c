-- The changes of a window that are read so far.
use Rattle.std.specs.Prelude.{◌≡◌, ◌≤◌, List, ◌+◌, ◌∷◌, ◌++◌, [], Result, Ok, Err, length}
use Rattle.net_types.specs.declared.config.Loaded.{Loaded}
use Rattle.net_io.specs.Limits.{file_limit}
use Rattle.topo_links.specs.Table.{table_names}
use Rattle.net_load.specs.Limits.{folder_limit}
use Rattle.net_load.specs.Numbering.{folder_names}
use Rattle.job_core.specs.declared.stop.Stop.{Stop}
use Rattle.window_core.specs.declared.base.Base.{Base}
use Rattle.window_core.specs.declared.change.Change.{Change}
use Rattle.window_core.specs.declared.changes.Window.{Window}
use Rattle.window_core.specs.Changes.{network_after}

-- the names of the network and of its link table are no more than bytes may be in a folder and in a file
pub record HasFewNames (base : Base) : Type 0 where
  pub devices : length (folder_names base.devices) ≤ folder_limit
  pub table : length (table_names base.table) ≤ file_limit

-- the network after them, and no more changes and names than their files have bytes
pub record IsWindow (base : Base) (w : Window) : Type 0 where
  pub devices : w.devices.items ≡ network_after w.changes base.devices
  pub names : length (folder_names w.changes) ≤ w.total
  pub few : length w.changes ≤ w.total
  pub total : w.total ≤ folder_limit

-- a change more, or why there is none
abbrev pub Grows : (Result Change Stop → Type 0) → List Loaded → Result Window Stop → Type 0
Grows Gives before (Ok w) = (x : Change) × Gives (Ok x) × (w.changes ≡ before ++ x.device ∷ []) × (w.total ≡ x.total)
Grows Gives before (Err s) = Gives (Err s)

-- the changes of the second have no more names beyond those of the first than their files have bytes
abbrev pub AddsNames : Window → Window → Type 0
AddsNames w v = w.total + length (folder_names v.changes) ≤ v.total + length (folder_names w.changes)
